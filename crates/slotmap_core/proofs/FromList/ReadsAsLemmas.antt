-- What holds of a map that was read from a list of slots.
-- For the crates of maps.
use Rattle.std.proofs.Common.{◌≡◌, ◌+◌, ◌∷◌, ◌++◌, sym, subst, ◌∙◌, arith, ℕ, Bool, List, length, Option, MatchOption}
use Rattle.std.proofs.lemmas.{Grind.common_steps, Option.slice_get-get_or, Option.slice_get_within}
use Rattle.slotmap_core.specs.Words.{Content, IsContent, start_places, StartsFrom, ReadsAs, IsConsistent, Accepts, Writes, records_of}
use Rattle.slotmap_core.specs.declared.serial.SlotRecord.{SlotRecord}
use Rattle.slotmap_core.proofs.FromList.StartLemmas.{live-start_places, retired-start_places, next-start_places, detached-start_places, sentinel-start_places}
use Rattle.slotmap_core.proofs.FromList.StartFits.{starts-fit}
use Rattle.slotmap_core.proofs.FromList.WrittenLemmas.{writes-places, written-restores, written-again}

-- what holds of every map that was read from an accepted list
pub reads_as : {V : Type 0} (slots : List (SlotRecord V)) (limit : ℕ) → Accepts slots limit → (reuses : Bool) (c : Content V) → StartsFrom slots c
    → IsContent reuses c → ReadsAs reuses slots c
reads_as slots limit accepted reuses c starts valid =
    let ps = start_places slots in
    let writes : Writes c (records_of ps) = writes-places ps c (starts.live ∙ sym (live-start_places slots limit accepted))
    (starts.detached ∙ sym (detached-start_places slots)) (starts.retired ∙ sym (retired-start_places slots limit accepted))
    (starts.next ∙ sym (next-start_places slots limit accepted)) (sentinel-start_places slots limit accepted) in
    record {
      starts = starts;
      valid = valid;
      fits = starts-fit slots limit accepted reuses c starts valid;
      restores = λ any old well written. written-restores any old well slots written c starts;
      writes_back = subst (Writes c) (written-again slots limit accepted c starts (records_of ps) writes) writes;
    }

-- the next record of an accepted list
pub next_consistent : {V : Type 0} (records before after : List (SlotRecord V)) (made : SlotRecord V) (limit : ℕ) → Accepts records limit
    → before ++ made ∷ after ≡ records → IsConsistent made
next_consistent records before after made limit accepted whole = grind (arith, common_steps, slice_get-get_or records (length before) made)

-- the first record of an accepted list is the one that an iterator over the list yields
pub first_taken : {V : Type 0} (records : List (SlotRecord V)) (limit : ℕ) → Accepts records limit → {items rest : List (SlotRecord V)} {len : ℕ} (left : ℕ) (taken : Option (SlotRecord V))
    → MatchOption taken ((len ≡ 0) × (left ≡ 0)) (λ x. (items ≡ x ∷ rest) × (left + 1 ≡ len)) → len ≡ length records
    → (x : SlotRecord V) × (items ≡ x ∷ rest) × (left + 1 ≡ len)
first_taken records limit accepted left taken steps whole = grind (arith, slice_get_within)
