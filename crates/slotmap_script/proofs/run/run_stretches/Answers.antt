use Rattle.std.proofs.Common.{◌≡◌, ◌++◌, Err, ap, sym, ◌∙◌, rules}
use Rattle.slotmap_script.proofs.Appending.{Appends-trans}
use Rattle.slotmap_script.proofs.Printing.{stretch_more_of, stops_after, taken_and_left}
use Rattle.std.specs.Vec.Iter.{into_iter_items}
use Rattle.slotmap_script.proofs.run.run_stretches.Goals as goal

pub loop-stretch-preserved : goal.loop-stretch-preserved
loop-stretch-preserved g c =
    let before = c.loop-stretch.invariant.2 in
    let one = c.in_ok-print_stretch.ensures.ok in (
      tt,
      tt,
      (
        before.0 ++ one.0,
        stretch_more_of g.C.Commands.replies_to g.M.Listed.lists c.loop-stretch.yielded _ _ _ before.0 one.0 c.in-Some.stretch before.1 one.1,
        Appends-trans _ _ _ before.0 one.0 before.2 one.2,
      ),
    )

pub returns-in_err-print_stretch-clause-err : goal.returns-in_err-print_stretch-clause-err
returns-in_err-print_stretch-clause-err g c =
    let contents = g.W.Write.contents in
    let before = c.loop-stretch.invariant.2 in
    let why = c.in_err-print_stretch.field-0.0 in
    let refused : c.from_residual.result ≡ Err why = search rules in
    let taken = taken_and_left c.into_iter-stretch-iterator.result c.loop-stretch.stretch-iterator c.loop-stretch.yielded c.loop-stretch.yielded_by in
    let all = c.into_iter-stretch-iterator.ensures.into_iter_gives.0 in
    let parts = sym all ∙ taken ∙ ap (λ ss. c.loop-stretch.yielded ++ ss) c.in-Some.ensures.steps.0 in
    rw refused (
    stops_after g.C.Commands.replies_to g.M.Listed.lists c.args.stretches.items c.loop-stretch.yielded (into_iter_items c.next.new.self) c.in-Some.stretch parts
    c.args.map c.loop-stretch.map before.0 before.1 (contents c.args.output.now) (contents c.loop-stretch.output) (contents c.print_stretch.new.output) before.2 why
    c.in_err-print_stretch.ensures.err
    )
