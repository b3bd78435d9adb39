use Rattle.std.proofs.Common.{◌≡◌, rules}
use Rattle.slotmap.proofs.Callers.{slots_read_back}
use Rattle.slotmap_examples.proofs.json.list_through_json.Goals as goal
use Rattle.slotmap_examples.proofs.json.list_through_json.Goals.{in-String-2, in-Array-2, in-Object-2, in-Null-2}

pub returns : goal.returns
returns c =
    let same : c.in-Ok-slots_from_value.read.items ≡ c.args.list.now =
    slots_read_back _ _ (record { kept = λ v x given. search rules; same = λ v x read given reading. search rules }) _ _ _ c.in-Ok.ensures.ok c.in-Ok-slots_from_value.ensures.ok in
    elim c.match-value-2.branch [
      | in-String-2 w ↦ record { same = same }
      | in-Array-2 w ↦ record { same = same }
      | in-Object-2 w ↦ record { same = same }
      | in-Null-2 w ↦ record { same = same }
    ]
