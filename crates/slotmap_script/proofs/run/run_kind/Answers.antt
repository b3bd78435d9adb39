use Rattle.slotmap_script.proofs.{Appending.Appends-none, Ending.none_named}
use Rattle.std.proofs.Common.{◌∙◌}
use Rattle.slotmap_script.proofs.run.run_kind.Goals as goal

pub returns-in_default-as_str-clause-err : goal.returns-in_default-as_str-clause-err
returns-in_default-as_str-clause-err g c =
    let not = c.in_default-as_str in
    let bytes = c.as_str.ensures.value in (
      none_named c.args.words.now c.kind-item.result c.in-len1.len_below c.kind-item.is
          (λ is. not.not-basic (bytes ∙ is)) (λ is. not.not-dense (bytes ∙ is)) (λ is. not.not-hop (bytes ∙ is)),
      Appends-none _,
    )
