-- An insertion of many pairs of references that stops for want of memory.
-- For the crates of maps.
use Rattle.std.proofs.Common.{List, Option, Some, Err, ap}
use Rattle.slotmap_core.specs.Words.{Bor, YieldsThen, Key, Pairs, RefusesPut, AllPut, values_of, ExtendsBy}

pub ExtendsBy-stopped : {It K V : Type 0} (data_of : K → Key) {gives : It → Option (K × Bor V) → It → Type 0} {it : It} {old now : Pairs V}
    (items : List (K × Bor V)) (key : K) (value : Bor V) (rest : It) {back : V}
    → AllPut data_of old (values_of items) now → YieldsThen gives it items (Some (key, value)) rest → RefusesPut now (data_of key) value.now back
    → ExtendsBy data_of it old (Err (key, back)) now gives
ExtendsBy-stopped data_of items key value rest put steps err = record { items = items; put = put; ended = ((rest, (key, value), steps, ap (λ v. (key, v)) err.1), err.0) }
