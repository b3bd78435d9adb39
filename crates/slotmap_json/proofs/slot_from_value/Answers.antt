use Rattle.std.proofs.Common.{◌≡◌}
use Rattle.slotmap_json.proofs.Common.{says_at, Ok, Err, Some, refl, sym, rules, view, ReadsJson, ok_map}
use Rattle.slotmap_json.proofs.JsonLemmas.{reads_value}
use Rattle.slotmap_json.proofs.slot_from_value.Goals as goal

pub returns-in_err-g-in-Some : goal.returns-in_err-g-in-Some
returns-in_err-g-in-Some g c =
    let x = c.in-Some.value.now in
    let reading : ReadsJson g.G.Fn c.args.g.now (view x) c.g.result = (x, refl, says_at g.G.Fn c.g.ensures refl) in
    let refused : c.from_residual-in_err-g-in-Some.result ≡ Err c.in_err-g-in-Some.field-0.0 = search rules in
    let version = c.in_ok-version.version in
    let passed_on : c.from_residual-in_err-g-in-Some.result ≡ ok_map (λ v. record { value = Some v; version = version }) c.g.result = rw (c.in_err-g-in-Some.was, refused) refl in
    reads_value (ReadsJson g.G.Fn c.args.g.now) (view c.args.element.now)
    (view x) version c.g.result c.from_residual-in_err-g-in-Some.result c.u32_member.result c.u32_member.ensures c.in_ok-version.ensures.ok_part
    (sym c.in-Some.ensures) reading passed_on

pub returns-in_ok-g-in-Some : goal.returns-in_ok-g-in-Some
returns-in_ok-g-in-Some g c =
    let x = c.in-Some.value.now in
    let reading : ReadsJson g.G.Fn c.args.g.now (view x) (Ok c.in_ok-g-in-Some.field-0) = (x, refl, says_at g.G.Fn c.g.ensures c.in_ok-g-in-Some.was) in
    reads_value (ReadsJson g.G.Fn c.args.g.now) (view c.args.element.now) (view x) c.in_ok-version.version (Ok c.in_ok-g-in-Some.field-0)
    (Ok (record { value = Some c.in_ok-g-in-Some.field-0; version = c.in_ok-version.version })) c.u32_member.result c.u32_member.ensures
    c.in_ok-version.ensures.ok_part (sym c.in-Some.ensures) reading refl
