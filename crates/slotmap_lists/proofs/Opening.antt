-- Lists that are new, or in which only the room changed.
use Rattle.slotmap_lists.proofs.Common.{length, is_some, ◌∙◌, ℕ, List, [], replicate, refl, sym, ap, arith, true, Key, Content, IsNew, Lists}
use Rattle.slotmap_lists.proofs.Common.{list_of, times, lists_at, home_of, one_if, AreListed, bound, key_cmp, elements_at, get_or, list_map, zero, suc}
use Rattle.std.proofs.Common.{◌≡◌, ◌<◌, ◌≤◌, ◌∷◌, ◌-◌, ◌^◌}
use Rattle.std.proofs.lemmas.List.{length-replicate}
use Rattle.slotmap_links.specs.Lists.{with_capacity, with_members, with_owners}
use Rattle.std.specs.FinMap as map

-- so many empty lists of numbers, for the numbers below n
abbrev pub opened : ℕ → ℕ → ℕ × ℕ → Lists
opened lists n capacity = with_capacity (with_members (with_owners (record { lists = []; members = 0; capacity = (0, 0) }) lists) n) capacity

-- each list is empty
empty_at : (n q : ℕ) → get_or (replicate {A = List ℕ} n []) q [] ≡ []
empty_at zero q = refl
empty_at (suc n) zero = refl
empty_at (suc n) (suc q) = empty_at n q

module _ {T : Type 0} where
  none_listed : (m : map.FinMap key_cmp T) (n : ℕ) → list_map (elements_at m) (replicate n []) ≡ replicate n []
  none_listed m zero = refl
  none_listed m (suc n) = ap (λ l. [] ∷ l) (none_listed m n)

  pub lists_opened : (m : map.FinMap key_cmp T) (lists n : ℕ) (capacity : ℕ × ℕ) → lists_at m (opened lists n capacity) ≡ replicate lists []
  lists_opened m lists n capacity = let none : lists - 0 ≡ lists = omega arith in none_listed m (lists - 0) ∙ ap (λ k. replicate k []) none

  pub listed_new : (c : Content T) (homes : List ℕ) (lists n : ℕ) (capacity : ℕ × ℕ) → IsNew c → bound c < n → n ≤ length homes → lists < 2 ^ 32
      → AreListed c homes (opened lists n capacity)
  listed_new c homes lists n capacity new covered long few =
      let none : (k : Key) → map.contains_key c.live k ≡ true → ⊥ = λ k live.
      (let h = ap (λ m. map.contains_key m k) new.live in let e = ap is_some (map.get-empty {X = T} key_cmp k) in cc) in
      let no_index : (p i : ℕ) → times i (list_of (opened lists n capacity) p) ≡ 0 = λ p i. ap (times i) (empty_at (lists - 0) p) in
      record {
        indices = λ p. record { apart = λ a b of_a of_b at. absurd (none a of_a); live = λ i inside. absurd (omega (arith, no_index p i)) };
        at_home = λ k live p. absurd (none k live);
        within = λ p i inside. absurd (omega (arith, no_index p i));
        covered = omega arith;
        homes_long = omega arith;
        few = omega (arith, length-replicate {A = List ℕ} (lists - 0) []);
      }

  -- the same keys are live, and there may be more room
  pub listed_alike : {c : Content T} {homes : List ℕ} {s : Lists} → AreListed c homes s → (new : Content T) → ((q : Key) → map.contains_key new.live q ≡ map.contains_key c.live q)
      → (now : List ℕ) → ((i : ℕ) → home_of now i ≡ home_of homes i)
      → (t : Lists) → t.lists ≡ s.lists → s.members ≤ t.members → t.members ≤ length now → bound new < t.members
      → AreListed new now t
  listed_alike {s = s} kept new same now homes t lists more long covered =
      let list : (p : ℕ) → list_of t p ≡ list_of s p = λ p. ap (λ (l : List (List ℕ)). list_of (record s { lists = l }) p) lists in
      record {
        indices = λ p. record {
          apart = λ a b of_a of_b. (kept.indices p).apart a b (sym (same a) ∙ of_a) (sym (same b) ∙ of_b);
          live = λ i inside. (let own = (kept.indices p).live i (omega (arith, ap (times i) (list p))) in (own.0, same own.0 ∙ own.1, own.2));
        };
        at_home = λ k live p. ap (times k.index) (list p) ∙ kept.at_home k (sym (same k) ∙ live) p ∙ ap (λ h. one_if h p) (sym (homes k.index));
        within = λ p i inside. omega (arith, kept.within p i (omega (arith, ap (times i) (list p))));
        covered = covered;
        homes_long = long;
        few = omega (arith, kept.few, ap length lists);
      }
