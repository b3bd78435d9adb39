-- After an insert into a content that a state fits, the machine's next state fits the new content.
use Rattle.std.specs.FinMap as map
use Rattle.std.specs.FinSet as set
use Rattle.std.proofs.Common.{◌≡◌, ◌≢◌, ◌+◌, ◌^◌, ◌<◌, nat_cmp, ℕ, Bool, inl, sym, ap, ◌∙◌, arith}
use Rattle.slotmap_core.proofs.Common.{IsContent, IsNew, IsIssued, after_insert, keys_total, exact_keys, in_inserted, offer_free, places_grow, new_stands, inserted_stands, inserted_vacant, in_retired}
use Rattle.slotmap_core.proofs.Common.{Key, key_cmp, Content, Stands, used, most, Inserts, State, StandsIn, Fresh, retired, Fits, Lasts, itself, free}
use Rattle.slotmap_run.proofs.{MapChanges.changes, OtherSteps.Moves}
use Rattle.slotmap_core.specs.Machine as machine

module _ {V : Type 0} (s : State V) (c : Content V) (fits : Fits s c) where
  pub stands_of : (k : Key) → StandsIn s k → Stands c k
  stands_of k h = grind (arith, fits.live, fits.detached)

  pub held_of : (k : Key) → Stands c k → StandsIn s k
  held_of k h = grind (arith, fits.live, fits.detached)

  pub used_same : machine.in_use s ≡ used c
  used_same = omega (arith, ap map.len fits.live, ap set.len fits.detached, ap set.len fits.retired)

  pub below : used c < most → machine.in_use s ≢ most
  below h e = omega (arith, used_same)

module _ {V : Type 0} (reuses : Bool) (s : State V) (old : Content V) (ok : IsContent reuses old) (fits : Fits s old) where
  module _ (room : used old < most) where
    offer_newer : (other : Key) → IsIssued s other → other.index ≡ old.offer.index → other.version < old.offer.version
    offer_newer other h e = grind (arith, ok.offers room, fits.past other old.offer.version, fits.within other)

    -- the machine may return the key that the map offers
    pub offer_fresh : Fresh s old.offer
    offer_fresh = grind (
      arith,
      ok.offers room,
      ok.vacancies old.offer.index old.offer.version,
      ok.vacant old.offer.index,
      used_same s old fits,
      fits.peak,
      offer_newer,
      stands_of s old fits,
      offer_free reuses old old ok room,
    )

  module _ (new : Content V) (k : Key) (v : V) (i : Inserts old k v new) (new_ok : IsContent reuses new) where
    newer : (other : Key) → IsIssued s other → other.index ≡ k.index → other.version < k.version
    newer = rw i.offered (offer_newer i.below_limit)

    pub inserts_fresh : Fresh s k
    inserts_fresh = rw i.offered (offer_fresh i.below_limit)

    k_stands : Stands new k
    k_stands = inl (rw i.live (in_inserted keys_total exact_keys old.live k v))

    same_retired : retired (after_insert s k v) ≡ old.retired
    same_retired = set.same_set keys_total exact_keys (retired (after_insert s k v)) old.retired
        (λ q. grind (arith, changes, in_retired (after_insert s k v) q, in_retired s q, fits.retired, newer k))

    inserts_fits : Fits (after_insert s k v) new
    inserts_fits = record {
      live = ap (λ (m : map.FinMap key_cmp V). map.insert m k v) fits.live ∙ sym i.live;
      detached = fits.detached ∙ sym i.detached;
      retired = same_retired ∙ sym i.retired;
      peak = rw (fits.peak, used_same s old fits) (places_grow reuses old new ok k v i);
      promised = let room = i.room in let promised = fits.promised in omega arith;
      issued = λ q st. grind (arith, inserted_stands old new k v i q st, changes, itself keys_total exact_keys k, fits.issued q);
      within = λ q h. grind (arith, changes, new_ok.within k (inl k_stands), fits.within q, places_grow reuses old new ok k v i);
      past = λ q w h g. grind (arith, changes, inserted_vacant old new k v i q.index w g, fits.past q w);
      present = λ q other h st e. grind (arith, changes, inserted_stands old new k v i other st, newer q, free reuses old new ok k v i other, fits.present q other);
    }

module _ {V : Type 0} (reuses : Bool) (old new : Content V) (ok : IsContent reuses old) (k : Key) (v : V) (i : Inserts old k v new) where
  inserts_lasts : (n : ℕ) → Lasts (n + 1) old → Lasts n new
  inserts_lasts n lasts =
      let offered = lasts.vacant old.offer.index old.offer.version in
      grind (arith, inserted_stands old new k v i, inserted_vacant old new k v i, ok.offers i.below_limit, ok.had_keys old.offer.index old.offer.version, lasts.vacant, lasts.standing)

  pub inserts : IsContent reuses new → Moves (λ s. after_insert s k v) old new
  inserts new_ok = record { fits = λ s fits. inserts_fits reuses s old ok fits new k v i new_ok; lasts = inserts_lasts }

module _ {V : Type 0} (c : Content V) (new : IsNew c) where
  pub new_fits : Fits machine.empty_state c
  new_fits =
      let none : retired (machine.empty_state {V = V}) ≡ c.retired = set.same_set keys_total exact_keys _ _
      (λ k. grind (arith, in_retired (machine.empty_state {V = V}) k, new.retired, set.contains-empty key_cmp k)) in
      grind (arith, none, set.contains-empty key_cmp, new_stands c new, map.len-empty key_cmp V, map.len-empty nat_cmp ℕ, set.len-empty key_cmp)

  -- it lasts for each number of calls below 2^32
  pub new_lasts : (n : ℕ) → n < 2 ^ 32 → Lasts n c
  new_lasts n few = grind (arith, new.retired, new.next, new_stands c new, map.get-empty {X = ℕ} nat_cmp)
