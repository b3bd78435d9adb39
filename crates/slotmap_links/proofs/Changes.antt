-- What callers cite: what is in each list once a member was put behind the others, or was taken out.
use Rattle.std.proofs.Common.{◌≡◌, ℕ, ◌+◌, ◌-◌, ◌<◌, ◌≤◌, ◌⊎◌, List, [], ◌∷◌, ◌++◌, length, length-append, replicate, max, zero, suc, refl, sym, ap, subst}
use Rattle.std.proofs.Common.{◌∙◌, arith, Result, Ok, Err, OnOk, OnErr}
use Rattle.slotmap_links.specs.Lists.{Lists, times, list_of, with_list, with_owners, with_members, with_capacity, cleared, IsIn, AreDisjoint, CoversMore}
use Rattle.slotmap_links.proofs.Counts.{same, same_or_other, one_itself, one_other, times_first, times_joined}
use Rattle.slotmap_links.proofs.Callers.{list_covered, list_now, list_other}

pub times_pushed : (x : ℕ) (ks : List ℕ) (k : ℕ) → times x (ks ++ k ∷ []) ≡ times x ks + same k x
times_pushed x ks k = omega (arith, times_joined x ks (k ∷ []), times_first x k [])

-- k is put behind the others in the list of p
module _ (s : Lists) (p k : ℕ) (there : p < length s.lists) where
  abbrev pushed : Lists
  pushed = with_list s p (list_of s p ++ k ∷ [])

  pushed_at : (x : ℕ) → times x (list_of pushed p) ≡ times x (list_of s p) + same k x
  pushed_at x = ap (times x) (list_now s p (list_of s p ++ k ∷ []) there) ∙ times_pushed x (list_of s p) k

  pub pushed_here : IsIn pushed p k
  pushed_here = omega (arith, pushed_at k, one_itself k)

  pub pushed_still : (q x : ℕ) → IsIn s q x → IsIn pushed q x
  pushed_still q x inside = grind (arith, same_or_other q p, pushed_at x, list_other s p (list_of s p ++ k ∷ []) q)

  pub pushed_was : (q x : ℕ) → IsIn pushed q x → IsIn s q x ⊎ ((q ≡ p) × (x ≡ k))
  pushed_was q x inside = grind (arith, same_or_other q p, same_or_other x k, pushed_at x, one_other k x, list_other s p (list_of s p ++ k ∷ []) q)

-- the same lists, where no fewer numbers may be members
pub disjoint_still : (s t : Lists) → AreDisjoint s → ((p : ℕ) → list_of t p ≡ list_of s p) → s.members ≤ t.members → AreDisjoint t
disjoint_still s t disjoint same more = record {
  once = λ p k. omega (arith, disjoint.once p k, ap (times k) (same p));
  alone = λ p q k at_p at_q. disjoint.alone p q k (was p k at_p) (was q k at_q);
  within = λ p k inside. omega (arith, disjoint.within p k (was p k inside));
}
  where
    was : (p k : ℕ) → IsIn t p k → IsIn s p k
    was p k inside = omega (arith, ap (times k) (same p))

-- all lists are empty
list_empty : (n : ℕ) (s : Lists) (q : ℕ) → list_of (record s { lists = replicate n [] }) q ≡ []
list_empty zero s q = refl
list_empty (suc n) s zero = refl
list_empty (suc n) s (suc q) = list_empty n s q

pub list_cleared : (s : Lists) (q : ℕ) → list_of (cleared s) q ≡ []
list_cleared s q = list_empty (length s.lists) s q

-- owners and members came, or owners alone
covers_by : (s : Lists) → AreDisjoint s → (n m : ℕ) (new : Lists) → s.members ≤ m → new ≡ with_capacity (record (with_owners s n) { members = m }) new.capacity → CoversMore s new
covers_by s disjoint n m new more is = subst (CoversMore s) (sym is) (record {
  lists = list_covered s n;
  owners = omega (arith, length-append s.lists (replicate {A = List ℕ} (n - length s.lists) []));
  members = more;
  disjoint = disjoint_still s (with_capacity (record (with_owners s n) { members = m }) new.capacity) disjoint (list_covered s n) more;
})

pub covered : (s : Lists) → AreDisjoint s → (n m : ℕ) (mid new : Lists) {A B : Type 0} (r : Result A B) → mid ≡ with_capacity (with_owners s n) mid.capacity
    → OnOk r (new ≡ with_capacity (with_members mid m) new.capacity) → OnErr r (new ≡ mid) → CoversMore s new
covered s disjoint n m mid new (Ok a) is ok err = covers_by s disjoint n (max s.members m) new (omega arith) (ok ∙ ap (λ l. with_capacity (with_members l m) new.capacity) is)
covered s disjoint n m mid new (Err b) is ok err = covers_by s disjoint n s.members new (omega arith) (err ∙ is ∙ ap (with_capacity (with_owners s n)) (ap (λ (l : Lists). l.capacity) (sym err)))
