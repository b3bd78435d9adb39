use Rattle.map_guards.proofs.RunLemmas.{keys_differ}
use Rattle.map_guards.proofs.run.later_runs.later_insert_on_a_used_map_returns_another_key.Goals as goal

pub returns : goal.returns
returns g c k q is are = let laws = c.in-Ok-run.ensures.continues.laws _ _ _ c.in-Ok.ensures.starts c.in-Ok.ensures.goes_on in keys_differ _ k q _ _ laws.no_key_twice is are
