use Rattle.std.proofs.Common.{arith, ap, length}
use Rattle.tla_modules.proofs.Folders.{shorter}
use Rattle.tla_modules.proofs.files.folder_of.Goals as goal

pub slice_bounds-result-count : goal.slice_bounds-result-count
slice_bounds-result-count c = omega (arith, shorter c.args.file.now, ap length c.without_folder.ensures)
