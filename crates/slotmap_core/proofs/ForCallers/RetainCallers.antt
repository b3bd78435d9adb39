-- What a `retain` leaves whose closure keeps every key but one.
-- For callers.
use Rattle.std.proofs.Common.{◌≡◌, ◌↔◌, IsTrue, Bool, true, false, not, cond, if◌then◌else◌, Option, Some, None, refl, sym, ap, ◌∙◌}
use Rattle.std.specs.{Fn.Mut, Fn.Called, Borrow.MutBor, Option.option_and_then, Ordering.eq_by_cmp}
use Rattle.slotmap_core.specs.{Key.Key, Key.key_cmp, Retain.RetainsBy}
use Rattle.slotmap_core.proofs.General.KeyLemmas.{keys_total, exact_keys, tied, itself}
use Rattle.slotmap_core.proofs.General.Maps.{same_bool}
use Rattle.slotmap_core.proofs.Several.RetainLemmas.{retained_as}
use Rattle.std.specs.FinMap as map

kept_but : {V : Type 0} (same stays : Bool) (after before : V) → stays ≡ not same → after ≡ before → cond stays (Some after) None ≡ (if same then None else Some before)
kept_but true stays after before is unwritten = ap (λ b. cond b (Some after) None) is
kept_but false stays after before is unwritten = ap (λ b. cond b (Some after) None) is ∙ ap Some unwritten

left_but : {V : Type 0} (same : Bool) (o : Option V) → option_and_then (λ v. if same then None else Some v) o ≡ cond same None o
left_but true None = refl
left_but true (Some v) = refl
left_but false None = refl
left_but false (Some v) = refl

module _ {F K V : Type 0} (g : Mut F (K × (MutBor V × Unit {0})) (Bool × (MutBor V × Unit {0}))) (data_of : K → Key) (same : K → K → Bool)
    (law : (a b : K) → IsTrue (same a b) ↔ data_of a ≡ data_of b) where
  -- keys that compare equal are those of one key
  same_is : (a b : K) → same a b ≡ eq_by_cmp key_cmp (data_of a) (data_of b)
  same_is a b = same_bool (same a b) (eq_by_cmp key_cmp (data_of a) (data_of b))
      (λ is. ap (eq_by_cmp key_cmp (data_of a)) (sym ((law a b).0 is)) ∙ itself keys_total exact_keys (data_of a))
      (λ ties. (law a b).1 (tied keys_total exact_keys (data_of a) (data_of b) ties))

  -- each call writes nothing, and returns whether its key isn't this one: so this key is removed, and nothing else changes
  pub retained_but : (gone : K) (Holds : F → Type 0)
      → ((f f' : F) (key : K) (shown after : MutBor V) (stays : Bool) → Holds f → Called g f (key, (shown, tt)) (stays, (after, tt)) f' → Holds f'
      × (after.now ≡ shown.now) × (stays ≡ not (same key gone)))
      → {f : F} {old new : map.FinMap key_cmp V} → Holds f → RetainsBy g data_of f old new → new ≡ map.remove old (data_of gone)
  retained_but gone Holds each {f} {old} {new} holds ran = map.same_map keys_total exact_keys new (map.remove old (data_of gone)) (λ q.
      retained_as g data_of (λ k v. if eq_by_cmp key_cmp k (data_of gone) then None else Some v) Holds
      (λ f f' key shown after stays at call. let one = each f f' key shown after stays at call in
      (one.0, kept_but (eq_by_cmp key_cmp (data_of key) (data_of gone)) stays after.now shown.now (one.2 ∙ ap not (same_is key gone)) one.1))
      holds ran q
      ∙ left_but (eq_by_cmp key_cmp q (data_of gone)) (map.get old q)
      ∙ sym (map.get-remove keys_total old (data_of gone) q))
