use Rattle.std.proofs.Common.{◌≡◌, ◌+◌, ◌<◌, ◌^◌, ℕ, List, Some, refl, sym, subst, ◌∙◌, inl, inr, arith, rules, slice_get}
use Rattle.std.proofs.lemmas.Bool.{cases_lt}
use Rattle.std.proofs.lemmas.Option.{same_Some, slice_get_read}
use Rattle.slotmap_core.specs.Words.{IsConsistent}
use Rattle.slotmap_core.proofs.serial.check_slots.Goals as goal

-- what holds of each element before one, and of this one, holds before the next one
before_next : {X : Type 0} (P : X → Type 0) (xs : List X) (i : ℕ) (x : X) → slice_get xs i ≡ Some x → P x
    → ((k : ℕ) (y : X) → k < i → slice_get xs k ≡ Some y → P y) → (k : ℕ) (y : X) → k < i + 1 → slice_get xs k ≡ Some y → P y
before_next P xs i x there holds before k y below is = elim (cases_lt k i) [
  | inl earlier ↦ before k y earlier is
  | inr later ↦
      let at : k ≡ i = omega (arith, below, later) in
      subst P (same_Some x y (sym there ∙ subst (λ n. slice_get xs n ≡ Some y) at is)) holds
]

pub returns-in_default-clause-err : goal.returns-in_default-clause-err
returns-in_default-clause-err g c = search rules

pub returns-in_default-2-clause-err : goal.returns-in_default-2-clause-err
returns-in_default-2-clause-err g c = search rules

pub returns-then-not-is_consistent-clause-ok : goal.returns-then-not-is_consistent-clause-ok
returns-then-not-is_consistent-clause-ok g c =
    let there = slice_get_read c.args.list.now _ c.loop-i.i c.index-list-i.result refl c.loop-i-test.true c.index-list-i.is in (
      λ bad. absurd (cc),
      λ accepts.
          sym c.if-not-is_consistent.true ∙ c.is_consistent.ensures.value.1 (accepts.consistent c.loop-i.i c.index-list-i.result c.loop-i-test.true there),
    )

pub returns-then-not-is_consistent-clause-err : goal.returns-then-not-is_consistent-clause-err
returns-then-not-is_consistent-clause-err g c =
    let there = slice_get_read c.args.list.now _ c.loop-i.i c.index-list-i.result refl c.loop-i-test.true c.index-list-i.is in (
      omega (arith, c.if-list-limit.false),
      c.loop-i.invariant.first_empty,
      record {
        before = c.loop-i.invariant.consistent;
        here = (c.index-list-i.result, there, λ ok. let is = sym c.if-not-is_consistent.true ∙ c.is_consistent.ensures.value.1 ok in absurd (cc));
      },
    )

pub returns-clause-ok : goal.returns-clause-ok
returns-clause-ok g c = search rules

pub loop-i-init : goal.loop-i-init
loop-i-init g c = search rules

pub loop-i-preserved : goal.loop-i-preserved
loop-i-preserved g c =
    let there = slice_get_read c.args.list.now _ c.loop-i.i c.index-list-i.result refl c.loop-i-test.true c.index-list-i.is in
    record {
      first_empty = c.loop-i.invariant.first_empty;
      consistent = before_next IsConsistent c.args.list.now c.loop-i.i c.index-list-i.result there (c.is_consistent.ensures.value.0 (grind (arith, c.if-not-is_consistent.false))) c.loop-i.invariant.consistent;
      versions_fit = before_next (λ slot. slot.version < 2 ^ 32) c.args.list.now c.loop-i.i c.index-list-i.result there c.is_consistent.ensures.version_fits c.loop-i.invariant.versions_fit;
    }
