use Rattle.std.proofs.Common.{◌≡◌}
use Rattle.std.specs.FinMap as map
use Rattle.slotmap_sparse.proofs.Common.{Key, key_from, keyed, MayCome, key_from-odd, List, Some, refl, ap, subst, ◌∙◌, pairs_of, IsSound, more_room, well_formed, of_keys, valid_from}
use Rattle.slotmap_sparse.proofs.Common.{ℕ, sym}
use Rattle.slotmap_sparse.proofs.RetainLemmas.{visited, comes_to, shown_at, retains_by}
use Rattle.slotmap_sparse.proofs.SparseSecondaryMap.retain.Goals as goal

pub retain-requires : goal.retain-requires
retain-requires g c = record {
  at = λ before after d k v is run.
      let comes = comes_to g.F.FnMut g.K.Key.data_of _ (λ x. x.0)
      (λ x i p b q y t. shown_at g.F.FnMut g.K.Key.data_of i _ p _ q _ b x.0 y.0 t.shows.0 t.shows.1 t.leaves t.called.met) _ d
      before after (k, v) c.args.self.now.pairs
      (subst (λ (es : List (ℕ × (ℕ × g.row.V.Denot))). pairs_of es ≡ c.args.self.now.pairs) is (ap (λ m. m.pairs) c.self.view_is))
      (subst (λ (es : List (ℕ × (ℕ × g.row.V.Denot))). IsSound es) is c.self.invariant) run in
      λ lent slot at held. record {
        at = λ key shown named shows.
            let of : g.K.Key.data_of key ≡ record { index = k; version = v.0 } = named ∙ (λ j. key_from (at j) (held j).0) ∙ key_from-odd k v.0 comes.0.1 comes.0.0.odd in
            c.requires.at d.0 key shown
            (subst (λ (q : Key). MayCome g.F.FnMut g.K.Key.data_of c.args.f (keyed c.args.self.now.pairs) q d.0) (sym of) comes.1)
            (subst (λ (q : Key). map.get (keyed c.args.self.now.pairs) q ≡ Some shown.now) (sym of) (comes.2 ∙ ap Some (sym (shows ∙ ap (λ (x : ℕ × g.row.V.Denot). x.1) held))));
      };
}

pub invariant_of-self : goal.invariant_of-self
invariant_of-self g c =
    let done = visited g.F.FnMut g.K.Key.data_of _ (λ x. x.0)
    (λ x i p b q y t. shown_at g.F.FnMut g.K.Key.data_of i _ p _ q _ b x.0 y.0 t.shows.0 t.shows.1 t.leaves t.called.met) _ _ _
    (of_keys _ c.self.invariant) c.retain.ensures.filtered in
    record { unique = c.retain.ensures.unique; keys = valid_from _ done.of }

pub returns-clause-retained : goal.returns-clause-retained
returns-clause-retained g c =
    let done = visited g.F.FnMut g.K.Key.data_of _ (λ x. x.0)
    (λ x i p b q y t. shown_at g.F.FnMut g.K.Key.data_of i _ p _ q _ b x.0 y.0 t.shows.0 t.shows.1 t.leaves t.called.met) _ _ _
    (of_keys _ c.self.invariant) c.retain.ensures.filtered in
    retains_by g.F.FnMut g.K.Key.data_of _ (λ x. x.0) _ _ _ _ (ap (λ m. m.pairs) c.self.view_is) c.self.invariant.unique c.retain.ensures.unique done

pub returns-clause-room : goal.returns-clause-room
returns-clause-room g c = more_room c.self.inside.slots c.retain.new.self _ c.self.view_is c.self.invariant (invariant_of-self g c) c.retain.ensures.spare

pub returns-clause-valid : goal.returns-clause-valid
returns-clause-valid g c = well_formed c.retain.new.self _ refl (invariant_of-self g c)
