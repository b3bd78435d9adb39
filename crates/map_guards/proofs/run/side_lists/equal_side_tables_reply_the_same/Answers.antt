use Rattle.map_guards.proofs.run.side_lists.equal_side_tables_reply_the_same.Goals as goal

pub returns : goal.returns
returns g c f shows same_shows had other_had =
    let seen = c.in-Ok-run_secondary.ensures.run_seen f same_shows in
    (c.in-Ok.ensures.agrees f shows had _ _ (rw (c.requires.same_pairs, c.requires.same_commands) at seen) other_had).0
