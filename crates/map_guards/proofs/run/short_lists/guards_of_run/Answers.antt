use Rattle.map_guards.proofs.RunLemmas.{inserts_differ}
use Rattle.map_guards.proofs.run.short_lists.guards_of_run.Goals as goal

pub returns-clause-two_inserts_return_two_keys : goal.returns-clause-two_inserts_return_two_keys
returns-clause-two_inserts_return_two_keys g c = inserts_differ g.K.Key.data_of (λ replies. replies.items) c.run.result (λ made law. law.no_key_twice) c.run.ensures.laws
