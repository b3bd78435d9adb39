use Rattle.std.proofs.Common.{◌≡◌, [], ◌++◌, rules, take, sym, ap, ◌∙◌, subst, append-nil, drop_of_length-le}
use Rattle.std.specs.Io.KnownBytes.{Appends}
use Rattle.slotmap_script.proofs.Appending.{Appends-kept, Appends-trans, moved_front}
use Rattle.slotmap_script.proofs.stop.write_text.Goals as goal
use Rattle.slotmap_script.proofs.stop.write_text.Goals.{in-Ok, in-Err+else-ne}

pub returns-then-is_empty-clause-ok : goal.returns-then-is_empty-clause-ok
returns-then-is_empty-clause-ok g c =
    let (done, split, appended) = c.loop.invariant in
    let rest = c.loop.rest.now in
    let empty : rest ≡ [] = drop_of_length-le rest {i = 0} (search rules) in
    subst (Appends _ _) (sym (split ∙ ap (λ l. done ++ l) empty ∙ append-nil done)) appended

pub loop-preserved : goal.loop-preserved
loop-preserved g c =
    let (done, split, appended) = c.loop.invariant in
    let rest = c.loop.rest.now in
    elim c.match-write.branch [
      | in-Ok w ↦ (
        done ++ take w.in-Ok.written rest,
        rw (w.rest-is) (moved_front _ done rest w.in-Ok.written split),
        Appends-trans _ _ _ _ _ appended w.in-Ok.ensures.bytes,
      )
      | in-Err+else-ne w ↦ (
        done,
        rw (w.rest-is) split,
        Appends-kept _ _ _ done appended w.in-Err.ensures.bytes,
      )
    ]
