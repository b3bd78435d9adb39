use Rattle.map_guards.proofs.RunLemmas.{inserts_differ, inserted_there}
use Rattle.slotmap_core.specs.declared.commands.Command.TheVariants as command
use Rattle.map_guards.proofs.run.short_lists.guards_of_run_new.Goals as goal

pub returns-clause-two_inserts_return_two_keys : goal.returns-clause-two_inserts_return_two_keys
returns-clause-two_inserts_return_two_keys g c = inserts_differ g.K.Key.data_of (λ made. made.1.items) c.run_new.result (λ made law. law.no_key_twice) c.run_new.ensures.laws

pub returns-clause-inserted_value_is_in_the_map : goal.returns-clause-inserted_value_is_in_the_map
returns-clause-inserted_value_is_in_the_map g c =
    inserted_there _ g.K.Key.data_of command.Insert c.args.commands.items (λ made. made.1.items) (λ made. g.M.Primary.content made.0)
    c.run_new.result (λ s t v k step. step.2) c.run_new.ensures.run
