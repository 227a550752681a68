-- Where modules that were read lead, as the code tells it.
use Rattle.tla_meaning.specs.ReadingOrder as order
use Rattle.flat_modules.specs.declared.course.Course.{Course}
use Rattle.flat_modules.specs.declared.course.Course.TheVariants.{Whole, Next, Cycle, TooMany}

abbrev pub course_of : Course → order.Course
course_of (Whole read) = order.Whole read
course_of (Next x read) = order.Next x read
course_of (Cycle xs) = order.Cycle xs
course_of TooMany = order.TooMany
