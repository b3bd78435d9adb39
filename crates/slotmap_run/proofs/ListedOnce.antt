-- A list of live keys has each of them once.
use Rattle.std.specs.FinMap as map
use Rattle.std.specs.FinSet as set
use Rattle.std.proofs.Common.{◌≡◌, ◌≤◌, ◌∷◌, List, [], length, false, ap, sym, ◌∙◌, arith}
use Rattle.slotmap_core.proofs.Common.{AllByRecursion, IsDistinct, IsKeyListing, list_any, eq_by_cmp, Key, key_cmp, exact_keys, keys_total}
use Rattle.slotmap_run.proofs.SetCounts.{live_keys, contains-live_keys, len-live_keys}

none_equal : (k : Key) (ks : List Key) → list_any (eq_by_cmp key_cmp k) ks ≡ false → AllByRecursion (λ q. eq_by_cmp key_cmp k q ≡ false) ks
none_equal k [] h = tt
none_equal k (q ∷ ks) h = grind (arith, none_equal k ks)

len-from_list : (ks : List Key) → set.len (set.from_list {R = key_cmp} ks) ≤ length ks
len-from_list [] = omega (arith, set.len-empty key_cmp)
len-from_list (k ∷ ks) = grind (arith, set.len-insert keys_total (set.from_list {R = key_cmp} ks) k, len-from_list ks)

-- a list has no key twice if it is as long as the set of its keys
distinct : (ks : List Key) → length ks ≡ set.len (set.from_list {R = key_cmp} ks) → IsDistinct (eq_by_cmp key_cmp) ks
unfolding IsDistinct
distinct [] h = tt
distinct (k ∷ ks) h =
    let short = len-from_list ks in
    let longer = set.len-insert keys_total (set.from_list {R = key_cmp} ks) k in
    let new : set.contains (set.from_list {R = key_cmp} ks) k ≡ false = grind arith in
    (none_equal k ks (sym (set.contains-from_list keys_total ks k) ∙ new), distinct ks (grind arith))

pub listed_once : {V : Type 0} (m : map.FinMap key_cmp V) (ks : List Key) → IsKeyListing m ks → IsDistinct (eq_by_cmp key_cmp) ks
listed_once m ks listing =
    let same = set.same_set keys_total exact_keys (set.from_list {R = key_cmp} ks) (live_keys m) (λ q. listing.all q ∙ sym (contains-live_keys m q)) in
    distinct ks (listing.once ∙ sym (len-live_keys m) ∙ sym (ap set.len same))
