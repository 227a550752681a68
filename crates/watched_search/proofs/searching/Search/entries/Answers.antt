use Rattle.watched_search.proofs.searching.Search.entries.Goals as goal

pub returns-clause-sound : goal.returns-clause-sound
returns-clause-sound c =
    let sound = c.entries.ensures.sound in
    rw (← c.self.view_is, c.self.invariant.1) (record { below = sound.below; distinct = sound.distinct; counted = sound.counted })
