-- What the laws of runs, and the machine, say of lists of one or two inserts.
use Rattle.std.specs.FinMap as map
use Rattle.std.proofs.Common.{◌≡◌, ◌≢◌, ◌∷◌, ◌++◌, [], List, Result, IfOk, Ok, Err, Some, arith}
use Rattle.slotmap_core.specs.Words.{Key, NoKeyTwice, IsDistinct, State, Content, RunsAnew, after_insert}
use Rattle.slotmap_core.proofs.ForCallers.Callers.{get-insert_here}
use Rattle.slotmap_core.proofs.General.KeyLemmas.{keys_total, exact_keys, itself}
use Rattle.slotmap_core.specs.declared.commands.Reply.{Reply}
use Rattle.slotmap_core.specs.declared.commands.Reply.TheVariants as reply

module _ {K V R E : Type 0} (data_of : K → Key) (k q : K) where
  two_keys : (replies : List (Reply K V R E)) → NoKeyTwice data_of replies → replies ≡ reply.Key k ∷ reply.Key q ∷ [] → data_of q ≢ data_of k
  unfolding IsDistinct
  two_keys replies once are same = let here = itself keys_total exact_keys (data_of k) in grind (arith, once, are, same, here)

  -- a key of the first and one of the second differ
  pub keys_differ : (told others : List (Reply K V R E)) → NoKeyTwice data_of (told ++ others)
      → told ≡ reply.Key k ∷ [] → others ≡ reply.Key q ∷ [] → data_of q ≢ data_of k
  keys_differ told others once is are = two_keys (told ++ others) once (grind (arith, is, are))

-- so where a law says it, two inserts return two keys
pub inserts_differ : {A B K V R E : Type 0} {Law : A → Type 0} (data_of : K → Key) (replies : A → List (Reply K V R E)) (result : Result A B)
    → ((made : A) → Law made → NoKeyTwice data_of (replies made)) → IfOk result Law
    → IfOk result (λ made. (k q : K) → replies made ≡ reply.Key k ∷ reply.Key q ∷ [] → data_of q ≢ data_of k)
inserts_differ data_of replies (Ok made) once law = λ k q are. two_keys data_of k q (replies made) (once made law) are
inserts_differ data_of replies (Err back) once law = tt

-- a run of one insert leaves its value under the key that it returned
pub inserted_there : {A B C K V R E : Type 0} (Next : State V → C → Reply K V R E → State V → Type 0) (data_of : K → Key) (insert : V → C)
    (commands : List C) (replies : A → List (Reply K V R E)) (content : A → Content V) (result : Result A B)
    → ((s t : State V) (v : V) (k : K) → Next s (insert v) (reply.Key k) t → t ≡ after_insert s (data_of k) v)
    → IfOk result (λ made. RunsAnew Next commands (replies made) (content made))
    → IfOk result (λ made. (v : V) (k : K) → commands ≡ insert v ∷ [] → replies made ≡ reply.Key k ∷ [] → map.get (content made).live (data_of k) ≡ Some v)
inserted_there Next data_of insert commands replies content (Ok made) step law = λ v k is are.
    let run = rw (is, are) at law in grind (arith, run, step, get-insert_here)
inserted_there Next data_of insert commands replies content (Err back) step law = tt
