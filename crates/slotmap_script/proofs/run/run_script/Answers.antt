use Rattle.std.proofs.Common.{map, string_bytes}
use Rattle.slotmap_script.proofs.Ending.{begins, refuses_at_2, runs_at_0}
use Rattle.slotmap_script.proofs.run.run_script.Goals as goal

pub returns-clause-runs : goal.returns-clause-runs
returns-clause-runs g c =
    let contents = g.W.Write.contents in
    runs_at_0 (map string_bytes c.args.words.now) (g.R.Read.remaining c.args.input.now) (contents c.args.output.now) (contents c.run_kind-ended.new.output)
    (contents c.finish.new.output) c.run_kind-ended.result c.finish.result c.run_kind-ended.ensures.ok c.finish.ensures.ends

pub returns-clause-refuses : goal.returns-clause-refuses
returns-clause-refuses g c =
    let contents = g.W.Write.contents in
    refuses_at_2 (map string_bytes c.args.words.now) (g.R.Read.remaining c.args.input.now) (contents c.args.output.now) (contents c.run_kind-ended.new.output)
    (contents c.finish.new.output) c.run_kind-ended.result c.finish.result c.run_kind-ended.ensures.err c.finish.ensures.ends

pub returns-clause-stops : goal.returns-clause-stops
returns-clause-stops g c = λ three.
    let contents = g.W.Write.contents in
    begins (map string_bytes c.args.words.now) (g.R.Read.remaining c.args.input.now) (contents c.args.output.now) (contents c.run_kind-ended.new.output)
    (contents c.finish.new.output) c.run_kind-ended.result c.finish.result c.run_kind-ended.ensures.ok c.run_kind-ended.ensures.err c.finish.ensures.ends
