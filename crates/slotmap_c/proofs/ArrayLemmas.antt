-- One step of `list`: the next pair is written behind those that stand there. For this crate alone.
use Rattle.std.proofs.Common.{◌≡◌, ℕ, ◌+◌, ◌-◌, ◌<◌, ◌≤◌, List, [], ◌∷◌, length, drop, set, get_or, map, min, suc, sym, ap, ◌∙◌, subst, arith, length-set}
use Rattle.std.proofs.lemmas.List.{take-set, drop-drop, length-drop, get_or-set_same, get_or-map, take_more_same, length-map, drop-set-lt}
use Rattle.std.proofs.Math.Seq.{drop-cons}
use Rattle.slotmap_c.specs.Calls.{ListsFirst}

module _ {P : Type 0} (pairs rest : List P) (p : P) (n : ℕ) (left : drop n pairs ≡ p ∷ rest) where
  pub one_more : n < length pairs
  one_more = let count : length pairs - n ≡ suc (length rest) = sym (length-drop n pairs) ∙ ap length left in omega arith

  pub left_next : drop (n + 1) pairs ≡ rest
  left_next = sym (drop-drop 1 n pairs) ∙ ap (drop 1) left

  pub writes_next : (f : P → ℕ) (was now : List ℕ) (x : ℕ) → n < length now → x ≡ f p → ListsFirst n (map f pairs) was now
      → ListsFirst (n + 1) (map f pairs) was (set now n x)
  writes_next f was now x within is lists =
      let here : get_or pairs n p ≡ p = ap (λ (l : List P). get_or l 0 p) (sym (drop-cons pairs n p one_more) ∙ left) in
      record {
        first = take_more_same (set now n x) (map f pairs) n 0
            (subst (λ (k : ℕ). n < k) (sym (length-set now n x)) within) (subst (λ (k : ℕ). n < k) (sym (length-map pairs f)) one_more)
            (take-set now n x ∙ lists.first) (get_or-set_same now n x 0 within ∙ is ∙ sym (get_or-map f pairs n p 0 one_more ∙ ap f here));
        rest = drop-set-lt (n + 1) now n x (omega arith) ∙ sym (drop-drop 1 n now) ∙ ap (drop 1) lists.rest ∙ drop-drop 1 n was;
        length = length-set now n x ∙ lists.length;
      }

pub all_written : {P : Type 0} (pairs : List P) (n a b : ℕ) → drop n pairs ≡ [] → n ≤ length pairs → n ≤ a → n ≤ b → n ≡ min (min a b) (length pairs)
all_written pairs n a b none at in_a in_b =
    let left : length pairs - n ≡ 0 = sym (length-drop n pairs) ∙ ap length none in
    let all : n ≡ length pairs = omega arith in
    omega arith

pub all_written_keys : {P : Type 0} (pairs : List P) (n a : ℕ) → drop n pairs ≡ [] → n ≤ length pairs → n ≤ a → n ≡ min a (length pairs)
all_written_keys pairs n a none at in_a =
    let left : length pairs - n ≡ 0 = sym (length-drop n pairs) ∙ ap length none in
    omega arith
