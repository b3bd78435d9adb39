use Rattle.std.proofs.Common.{◌++◌, [], map, ap, ◌∙◌}
use Rattle.std.proofs.lemmas.List.{map-append}
use Rattle.slotmap_script.specs.ScriptText.{stretches_from, stretch_of}
use Rattle.slotmap_script.proofs.Lines.{append_nil}
use Rattle.slotmap_script.proofs.script.parse.Goals as goal

pub returns-clause-ok : goal.returns-clause-ok
returns-clause-ok g c =
    let parsed = c.in_ok-parse_lines.ensures.ok in
    let said = parsed.0 in
    let started = c.new-commands.result.items in
    let begun = ap (λ t. map stretch_of t ++ stretches_from started (said ++ [])) c.new-stretches.ensures.items
    ∙ ap (λ t. stretches_from t (said ++ [])) c.new-commands.ensures.items ∙ ap (stretches_from []) (append_nil said) in
    (said, parsed.1, ap (map stretch_of) c.in_ok-push.ensures.items ∙ map-append stretch_of _ _ ∙ parsed.2 [] ∙ begun)
