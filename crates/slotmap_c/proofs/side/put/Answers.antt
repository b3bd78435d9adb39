use Rattle.std.proofs.Common.{◌≡◌, ℕ, false, refl, sym, ap, ◌∙◌, inl, inr}
use Rattle.slotmap_core.specs.Words.{Pairs, contains_key}
use Rattle.slotmap_core.proofs.SecondaryMaps.SecondaryLemmas.{put_nothing}
use Rattle.slotmap_c.proofs.SideLemmas.{has_no_entry}
use Rattle.slotmap_c.proofs.side.put.Goals as goal

pub returns-else-contains_key-clause-says : goal.returns-else-contains_key-clause-says
returns-else-contains_key-clause-says c =
    let m = c.args.inside.now.pairs in
    let out : contains_key c.insert.new.self.pairs c.args.key ≡ false = sym c.contains_key.ensures.value ∙ c.if-contains_key.false in
    let absent = has_no_entry m c.args.key c.args.value (ap (λ (n : Pairs ℕ). contains_key n c.args.key) (sym c.in-Ok.ensures.ok) ∙ out) in
    inr (inl (refl, absent, c.in-Ok.ensures.ok ∙ put_nothing m c.args.key c.args.value absent, c.in-Ok.ensures.places))
