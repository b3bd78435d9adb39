-- What stays true while pairs are taken out from the back.
use Rattle.std.specs.FinMap as map
use Rattle.std.proofs.Common.{◌≡◌, ◌∷◌, ◌++◌, option_map, zip, ℕ, false, List, [], length, reverse, append_assoc, Option, Some, is_some, refl, sym, ap, ◌∙◌}
use Rattle.slotmap_core.proofs.Common.{Key, Leaves, pushed, pushed_all, pushed_all_push, arith, nil_from_length, reverse-append, length-zip, Leaves-refl, Leaves-removed}
use Rattle.slotmap_dense.specs.Dense.{Dense, IsDense, IsEmpty, TakesLast}
use Rattle.slotmap_dense.proofs.SwapRemoveLemmas.{zip-push}

pub pushed_on : (ks : List Key) (k : Key) (o : Option (List ℕ))
    → option_map (λ stack. pushed stack k) (option_map (λ stack. pushed_all stack ks) o) ≡ option_map (λ stack. pushed_all stack (ks ++ k ∷ [])) o
pushed_on ks k o = grind (arith, pushed_all_push)

pub none_pushed : (o : Option (List ℕ)) → o ≡ option_map (λ stack. pushed_all stack []) o
none_pushed o = grind arith

module _ {V : Type 0} where
  -- some keys were taken from the back, in this order
  pub record Taken (old now : Dense V) : Type 0 where
    pub leaves : Leaves old.content now.content
    pub capacity : now.content.capacity ≡ old.content.capacity
    pub well : IsDense now
    pub taken : List Key
    pub back : reverse old.keys ≡ taken ++ reverse now.keys
    pub order : now.content.stack ≡ option_map (λ stack. pushed_all stack taken) old.content.stack

  pub Taken-start : (d : Dense V) → IsDense d → Taken d d
  Taken-start d well = record { leaves = Leaves-refl d.content; capacity = refl; well = well; taken = []; back = refl; order = none_pushed d.content.stack }

  pub Taken-next : {K : Type 0} (data_of : K → Key) (old now new : Dense V) (pair : K × V) → Taken old now → TakesLast data_of now (Some pair) new
      → new.content.capacity ≡ now.content.capacity → IsDense new → Taken old new
  Taken-next data_of old now new pair so_far takes capacity well =
      let k = data_of pair.0 in
      record {
        leaves = Leaves-removed false now.content so_far.well.content k (ap is_some takes.0) new.content takes.1 old.content so_far.leaves;
        capacity = capacity ∙ so_far.capacity;
        well = well;
        taken = so_far.taken ++ k ∷ [];
        back = rw (so_far.back, takes.2, reverse-append new.keys (k ∷ [])) (sym (append_assoc so_far.taken (k ∷ []) (reverse new.keys)));
        order = takes.1.stack ∙ ap (option_map (λ stack. pushed stack k)) so_far.order ∙ pushed_on so_far.taken k old.content.stack;
      }

  -- the pair that is taken was the first from the back
  pub last_first : {K : Type 0} (data_of : K → Key) (now new : Dense V) (pair : K × V) → TakesLast data_of now (Some pair) new → IsDense new
      → reverse (zip now.keys now.values) ≡ (data_of pair.0, pair.1) ∷ reverse (zip new.keys new.values)
  last_first data_of now new pair takes well =
      rw (takes.2, takes.3, zip-push new.keys new.values (data_of pair.0) pair.1 well.same_length) (reverse-append (zip new.keys new.values) ((data_of pair.0, pair.1) ∷ []))

  -- if no key is in the list, the map is empty
  pub none_left : (d : Dense V) → IsDense d → d.keys ≡ [] → (d.content.live ≡ map.empty) × IsEmpty d
  none_left d well none = (sym (rw none at well.listed.all), record { keys = none; values = nil_from_length d.values (well.same_length ∙ ap length none) })

  -- as many keys are live as are in the list
  pub len_keys : (d : Dense V) → IsDense d → length d.keys ≡ map.len d.content.live
  len_keys d well = omega (arith, well.same_length, well.listed.once, length-zip d.keys d.values)
