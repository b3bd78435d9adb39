-- A loop along the nodes below a node that writes them on its way: which keys it passed, and which are ahead.
use Rattle.std.proofs.Common.{◌++◌, ◌<◌, ◌∷◌, ◌≡◌, ◌≢◌, ◌≤◌}
use Rattle.slotmap_scene.proofs.Common.{IsScene, Key, List, Nodes, None, Option, Some, [], all_below, ap, append-nil, append_assoc, arith, behind}
use Rattle.slotmap_scene.proofs.Common.{changed, changed_here, changed_in, changed_other, children_in, children_of, first_or, Node, changed_keeps}
use Rattle.slotmap_scene.proofs.Common.{is_some, keys_down, keys_from, inl, inr, in_midst, length, len_alike, one_itself, one_other, option_map, refl}
use Rattle.slotmap_scene.proofs.Common.{same, same_Some, same_or_other, subst, suc, sym, times, times_pushed, value_of, with_value, zero, ℕ, ◌∙◌}
use Rattle.slotmap_scene.proofs.Descending.{below_once}
use Rattle.slotmap_scene.proofs.Walking.{behind_here, from_behind}
use Rattle.std.specs.FinMap as map

-- the keys of a list that were passed, with a fact of each, those that are ahead, and a fact of each key that wasn't passed
pub record GoesBelow (all : List Key) (at : Option Key) (Passed Other : Key → Type 0) : Type 0 where
  pub passed : List Key
  pub ahead : List Key
  pub list : all ≡ passed ++ ahead
  pub here : at ≡ first_or ahead None
  pub once : (k : Key) → times k all ≤ 1
  pub each : (k : Key) → 0 < times k passed → Passed k
  pub others : (k : Key) → times k passed ≡ 0 → Other k

-- how many are ahead
abbrev pub left_below : Option Key → List Key → ℕ
left_below at all = length (keys_from at all)

-- nothing stands first
none_is : (ks : List Key) → None ≡ first_or ks None → ks ≡ []
none_is [] is = refl
none_is (q ∷ ks) is = absurd (cc)

-- at the first node below another one
pub below_start : {T : Type 0} (nodes : Nodes T) → IsScene nodes → (node : Key) (at : Option Key) → at ≡ first_or (all_below nodes node) None
    → (Passed Other : Key → Type 0) → ((k : Key) → Other k) → GoesBelow (all_below nodes node) at Passed Other
below_start nodes scene node at is Passed Other other =
    record { passed = []; ahead = all_below nodes node; list = refl; here = is; once = below_once nodes scene node; each = λ k more. absurd (omega arith); others = λ k none. other k }

module _ (all : List Key) (k : Key) (Passed Other : Key → Type 0) (goes : GoesBelow all (Some k) Passed Other) where
  rest_of : (rest : List Key) × (goes.ahead ≡ k ∷ rest)
  rest_of = by goes.ahead goes.here
    where
      by : (ks : List Key) → Some k ≡ first_or ks None → (rest : List Key) × (ks ≡ k ∷ rest)
      by [] is = absurd (cc)
      by (q ∷ ks) is = (ks, grind arith)

  whole : all ≡ goes.passed ++ k ∷ rest_of.0
  whole = goes.list ∙ ap (λ l. goes.passed ++ l) rest_of.1

  not_passed : times k goes.passed ≡ 0
  not_passed = omega (arith, goes.once k, ap (times k) whole, in_midst goes.passed k rest_of.0)

  -- the key is one of them, and wasn't passed
  pub below_here : 0 < times k all
  below_here = omega (arith, ap (times k) whole, in_midst goes.passed k rest_of.0)

  pub below_other : Other k
  below_other = goes.others k not_passed

  -- to the key behind it
  pub below_next : (next : Option Key) → next ≡ behind k all → (NewPassed NewOther : Key → Type 0) → NewPassed k
      → ((q : Key) → q ≢ k → Passed q → NewPassed q) → ((q : Key) → q ≢ k → Other q → NewOther q) → GoesBelow all next NewPassed NewOther
  below_next next is NewPassed NewOther holds passed_still other_still = record {
    passed = goes.passed ++ k ∷ [];
    ahead = rest_of.0;
    list = whole ∙ sym (append_assoc goes.passed (k ∷ []) rest_of.0);
    here = is ∙ behind_here all goes.once k goes.passed rest_of.0 whole;
    once = goes.once;
    each = λ q more. elim (same_or_other q k) [
      | inl at ↦ subst NewPassed (sym at) holds
      | inr other ↦ passed_still q other (goes.each q (omega (arith, times_pushed q goes.passed k, one_other k q (λ e. other (sym e)))))
    ];
    others = λ q none. elim (same_or_other q k) [
      | inl at ↦ absurd (omega (arith, times_pushed q goes.passed k, ap (λ x. same k x) at, one_itself k))
      | inr other ↦ other_still q other (goes.others q (omega (arith, times_pushed q goes.passed k)))
    ];
  }

  pub below_less : (next : Option Key) → next ≡ behind k all → left_below next all < left_below (Some k) all
  below_less next is = omega (arith, ap length (from_behind all goes.once k below_here), ap (λ o. left_below o all) is)

-- a loop that changes each node in one way, and has changed no other
module _ {T : Type 0} (old now : Nodes T) (f : Node T → Node T) (all : List Key) (k : Key)
    (goes : GoesBelow all (Some k) (λ q. map.get now q ≡ option_map f (map.get old q)) (λ q. map.get now q ≡ map.get old q)) where
  pub below_changed : (next : Option Key) → next ≡ behind k all
      → GoesBelow all next (λ q. map.get (changed now k f) q ≡ option_map f (map.get old q)) (λ q. map.get (changed now k f) q ≡ map.get old q)
  below_changed next is = below_next all k _ _ goes next is _ _
      (changed_here now k f ∙ ap (option_map f) (below_other all k _ _ goes))
      (λ q other was. changed_other now k f q other ∙ was)
      (λ q other was. changed_other now k f q other ∙ was)

-- at the end each of them was passed, and no other key
module _ (all : List Key) (Passed Other : Key → Type 0) (goes : GoesBelow all None Passed Other) where
  all_passed : all ≡ goes.passed
  all_passed = goes.list ∙ ap (λ l. goes.passed ++ l) (none_is goes.ahead goes.here) ∙ append-nil goes.passed

  pub below_end : (k : Key) → 0 < times k all → Passed k
  below_end k more = goes.each k (omega (arith, ap (times k) all_passed))

  pub below_others : (k : Key) → times k all ≡ 0 → Other k
  below_others k none = goes.others k (omega (arith, ap (times k) all_passed))

-- the same nodes are below a node where a value was changed
module _ {T : Type 0} (nodes : Nodes T) (k : Key) (f : Node T → Node T) (children : (n : Node T) → (f n).children ≡ n.children) where
  down_still : (n : ℕ) (ks : List Key) → keys_down (changed nodes k f) n ks ≡ keys_down nodes n ks
  down_still zero ks = refl
  down_still (suc n) [] = refl
  down_still (suc n) (q ∷ ks) = ap (λ l. q ∷ l)
      (ap (λ own. keys_down (changed nodes k f) n (own ++ ks)) (changed_keeps nodes k f children_in children q) ∙ down_still n (children_of nodes q ++ ks))

  pub below_still : (node : Key) → all_below (changed nodes k f) node ≡ all_below nodes node
  below_still node =
      ap (λ n. keys_down (changed nodes k f) n (children_of (changed nodes k f) node)) (len_alike (changed nodes k f) nodes (changed_keeps nodes k f is_some (λ n. refl)))
      ∙ ap (keys_down (changed nodes k f) (map.len nodes)) (changed_keeps nodes k f children_in children node)
      ∙ down_still (map.len nodes) (children_of nodes node)

-- a value that is written is a change of the node, by what is made of the value that was there
module _ {T : Type 0} (nodes : Nodes T) (k : Key) (g : T → T) where
  pub value_written : (v w : T) → Some v ≡ value_of nodes k → w ≡ g v → with_value nodes k w ≡ changed nodes k (λ n. record n { value = g n.value })
  value_written v w was is = by (map.get nodes k) was
    where
      by : (o : Option (Node T)) → Some v ≡ option_map (λ n. n.value) o → changed_in nodes k o (λ n. record n { value = w }) ≡ changed_in nodes k o (λ n. record n { value = g n.value })
      by None at = absurd (cc)
      by (Some n) at = ap (λ x. map.insert nodes k (record n { value = x })) (is ∙ ap g (same_Some v n.value at))

  pub value_unwritten : None ≡ value_of nodes k → nodes ≡ changed nodes k (λ n. record n { value = g n.value })
  value_unwritten gone = by (map.get nodes k) gone
    where
      by : (o : Option (Node T)) → None ≡ option_map (λ n. n.value) o → nodes ≡ changed_in nodes k o (λ n. record n { value = g n.value })
      by None at = refl
      by (Some n) at = absurd (cc)
