use Rattle.slotmap_entities.proofs.Common.{true, Option, Some, None, is_some, refl, sym, ap, ◌∙◌, Key, Pairs, contains_key, keyed, get-keyed, retained_none, own_beside, table_live}
use Rattle.std.proofs.Common.{◌≡◌}
use Rattle.std.specs.FinMap as map
use Rattle.slotmap_entities.proofs.World.retain_components.Goals as goal

-- what has a component afterwards had one before
no_more : {C : Type 0} (old new : Pairs C) → ((k : Key) → map.get (keyed old) k ≡ None → map.get (keyed new) k ≡ None) → (k : Key)
    → contains_key new k ≡ true → contains_key old k ≡ true
no_more old new none k there = by (map.get (keyed old) k) refl
  where
    by : (o : Option _) → map.get (keyed old) k ≡ o → contains_key old k ≡ true
    by None is = absurd (let gone = sym (get-keyed new k) ∙ none k is in let no = ap is_some gone in cc)
    by (Some v) is = ap is_some (sym (get-keyed old k) ∙ is)

pub invariant_of-self : goal.invariant_of-self
invariant_of-self g c =
    let content = c.self.inside.entities.content in
    let has = g.T.Tables.has c.self.inside.tables in
    let old = g.C.Table.Table.pairs c.table_mut.result.now in
    let now = g.C.Table.Table.pairs c.retain.new.self in
    let beside = own_beside content has c.self.invariant old (rw c.table_mut.ensures.value (g.met.C.Kind.has_own c.self.inside.tables)) in
    table_live content has c.self.invariant now _ (λ k there. beside k (no_more old now (retained_none _ _ c.retain.ensures.retained) k there))
    (g.met.C.Kind.has_no_more c.self.inside.tables c.retain.new.self)
