-- What a change at one key of the slab does to what stands under the numbers: by induction over the keys, which stand in the
-- order of their numbers.
use Rattle.std.proofs.Common.{◌≡◌, ℕ, zero, suc, ◌+◌, ◌<◌, ◌≤◌, ◌≢◌, ◌==◌, Bool, true, false, List, [], ◌∷◌, ◌++◌, length, Option, Some}
use Rattle.std.proofs.Common.{None, refl, sym, ap, ◌∙◌, arith, inl, inr}
use Rattle.std.specs.Prelude.{slice_get, slice_index_or, slice_set, is_some, IsSome, if◌then◌else◌}
use Rattle.std.proofs.lemmas.Bool.{cases_Bool}
use Rattle.std.proofs.lemmas.Bool.Decides.{nat_tests}
use Rattle.std.proofs.lemmas.List.{get_or_default}
use Rattle.std.proofs.lemmas.Option.{slice_get_past, get_or_from_slice_get}
use Rattle.slab.specs.Slab.{Slab, get, ContainsKey, Updates}
use Rattle.dev_handle.specs.Handles.{IsOpen, handle_at}
use Rattle.dev_handle.specs.Stored.{at_key, if_numbered, stored, stored_from}
use Rattle.dev_handle.specs.declared.handle.OpenHandle.{OpenHandle}
use Rattle.dev_handle.specs.declared.stored.Numbered.{Numbered}

pub length_stored : (n : ℕ) (slots : List (Option Numbered)) (keys : List ℕ) → length (stored_from n slots keys) ≡ length keys
length_stored n slots [] = refl
length_stored n slots (key ∷ keys) = ap suc (length_stored (n + 1) slots keys)

-- ---- what stands under one number

index_stored : (n i number : ℕ) (slots : List (Option Numbered)) (keys : List ℕ) → number ≡ n + i
    → slice_index_or (stored_from n slots keys) i None ≡ at_key number slots (slice_get keys i)
index_stored n i number slots [] e = refl
index_stored n zero number slots (key ∷ keys) e = let f : n ≡ number = omega arith in ap (λ m. at_key m slots (Some key)) f
index_stored n (suc i) number slots (key ∷ keys) e = index_stored (n + 1) i number slots keys (omega arith)

pub handle_at_stored : (s : Slab Numbered) (keys : List ℕ) (n : ℕ) → handle_at (stored s keys) n ≡ at_key n s.slots (slice_get keys n)
handle_at_stored s keys n = index_stored 0 n n s.slots keys (omega arith)

-- an open number has a key, at which its handle stands with it
record IsStored (n : ℕ) (slots : List (Option Numbered)) (keys : List ℕ) : Type 0 where
  pub within : n < length keys
  pub value : Numbered
  pub value_is : slice_index_or slots (slice_index_or keys n 0) None ≡ Some value
  pub own : value.number ≡ n

own_number : (n : ℕ) (b : Bool) (v : Numbered) → (v.number == n) ≡ b → is_some (if b then Some v.handle else None) ≡ true → v.number ≡ n
own_number n true v is there = grind (arith, nat_tests)
own_number n false v is there = absurd cc

stored_slot : (n : ℕ) (slots : List (Option Numbered)) (keys : List ℕ) (x : Option Numbered) → n < length keys
    → slice_index_or slots (slice_index_or keys n 0) None ≡ x → IsSome (if_numbered n x) → IsStored n slots keys
stored_slot n slots keys None within is there = absurd cc
stored_slot n slots keys (Some v) within is there =
    record { within = within; value = v; value_is = is; own = own_number n (v.number == n) v refl there }

stored_key : (n : ℕ) (slots : List (Option Numbered)) (keys : List ℕ) (k : Option ℕ) → slice_get keys n ≡ k
    → IsSome (at_key n slots k) → IsStored n slots keys
stored_key n slots keys None is there = absurd cc
stored_key n slots keys (Some key) is there =
    let within : n < length keys = grind (arith, slice_get_past keys n) in
    let key_is : slice_index_or keys n 0 ≡ key = get_or_from_slice_get keys n key 0 is in
    stored_slot n slots keys (slice_index_or slots (slice_index_or keys n 0) None) within refl (rw key_is there)

open_is_stored : (s : Slab Numbered) (keys : List ℕ) (n : ℕ) → IsOpen (stored s keys) n → IsStored n s.slots keys
open_is_stored s keys n is = stored_key n s.slots keys (slice_get keys n) refl (rw (handle_at_stored s keys n) at is)

pub open_is_within : (s : Slab Numbered) (keys : List ℕ) (n : ℕ) → IsOpen (stored s keys) n → n < length keys
open_is_within s keys n is = (open_is_stored s keys n is).within

pub open_has_key : (s : Slab Numbered) (keys : List ℕ) (n key : ℕ) → key ≡ slice_index_or keys n key → IsOpen (stored s keys) n
    → ContainsKey s key
open_has_key s keys n key key_is is =
    let f = open_is_stored s keys n is in
    let e : slice_index_or keys n 0 ≡ key = get_or_default keys n 0 key f.within ∙ sym key_is in
    ap (λ k. is_some (get s k)) (sym e) ∙ ap is_some f.value_is

-- ---- another slot

-- a slab that differs from another at one key alone
module _ (s t : Slab Numbered) (key : ℕ) (others : (other : ℕ) → other ≢ key → get t other ≡ get s other) where
  -- a number for which both slots at the key say the same has the same handle under it, whatever its own key is
  same_at : (m k : ℕ) → if_numbered m (get t key) ≡ if_numbered m (get s key) → if_numbered m (get t k) ≡ if_numbered m (get s k)
  same_at m k same =
      elim (cases_Bool (k == key)) [
        | inl is ↦ let e : k ≡ key = grind (arith, nat_tests) in rw e same
        | inr isnt ↦ ap (if_numbered m) (others k (λ e. let is : (k == key) ≡ true = grind (arith, nat_tests) in absurd cc))
      ]

  same_from : (n : ℕ) (keys : List ℕ) → ((m : ℕ) → n ≤ m → m < n + length keys → if_numbered m (get t key) ≡ if_numbered m (get s key))
      → stored_from n t.slots keys ≡ stored_from n s.slots keys
  same_from n [] h = refl
  same_from n (k ∷ keys) h =
      ap (λ x. x ∷ stored_from (n + 1) t.slots keys) (same_at n k (h n (omega arith) (omega arith)))
      ∙ ap (λ xs. if_numbered n (get s k) ∷ xs) (same_from (n + 1) keys (λ m a b. h m (omega (arith, a)) (omega (arith, b))))

  -- the slot at the key may say another thing of the number that has the key, and of that one alone
  set_from : (n i number : ℕ) (keys : List ℕ) → number ≡ n + i → i < length keys → slice_index_or keys i 0 ≡ key
      → ((m : ℕ) → m ≢ number → if_numbered m (get t key) ≡ if_numbered m (get s key))
      → stored_from n t.slots keys ≡ slice_set (stored_from n s.slots keys) i (if_numbered number (get t key))
  set_from n i number [] e within is h = absurd (omega arith)
  set_from n zero number (k ∷ keys) e within is h =
      let f : n ≡ number = omega arith in
      let here : if_numbered n (get t k) ≡ if_numbered number (get t key) =
      ap (λ j. if_numbered n (get t j)) is ∙ ap (λ m. if_numbered m (get t key)) f in
      ap (λ y. y ∷ stored_from (n + 1) t.slots keys) here
      ∙ ap (λ xs. if_numbered number (get t key) ∷ xs) (same_from (n + 1) keys (λ m a b. h m (λ bad. omega (arith, a, bad))))
  set_from n (suc i) number (k ∷ keys) e within is h =
      ap (λ y. y ∷ stored_from (n + 1) t.slots keys) (same_at n k (h n (λ bad. omega (arith, bad))))
      ∙ ap (λ xs. if_numbered n (get s k) ∷ xs) (set_from (n + 1) i number keys (omega arith) (omega (arith, within)) is h)

-- the slot of one number says nothing of another
other_number : (m n : ℕ) (v : Numbered) → v.number ≡ n → m ≢ n → if_numbered m (Some v) ≡ None
other_number m n v same other =
    elim (cases_Bool (v.number == m)) [
      | inl is ↦ absurd (other (grind (arith, nat_tests)))
      | inr isnt ↦ rw isnt
    ]

same_number : (n : ℕ) (v : Numbered) → v.number ≡ n → if_numbered n (Some v) ≡ Some v.handle
same_number n v same = let is : (v.number == n) ≡ true = grind (arith, nat_tests) in rw is

-- ---- what the calls do

module _ (s t : Slab Numbered) (keys : List ℕ) (n : ℕ) (is : IsOpen (stored s keys) n) where
  -- the handle of an open number is written over
  pub put_stored : (handle : OpenHandle) → Updates s t (slice_index_or keys n 0) (Some (record { number = n; handle = handle }))
      → stored t keys ≡ slice_set (stored s keys) n (Some handle)
  put_stored handle u =
      let f = open_is_stored s keys n is in
      let v : Numbered = record { number = n; handle = handle } in
      set_from s t (slice_index_or keys n 0) u.others 0 n n keys (omega arith) f.within refl
      (λ m other. ap (if_numbered m) u.changed ∙ other_number m n v refl other
      ∙ sym (ap (if_numbered m) f.value_is ∙ other_number m n f.value f.own other))
      ∙ ap (slice_set (stored s keys) n) (ap (if_numbered n) u.changed ∙ same_number n v refl)

  -- .. or taken away
  pub removed_stored : Updates s t (slice_index_or keys n 0) None → stored t keys ≡ slice_set (stored s keys) n None
  removed_stored u =
      let f = open_is_stored s keys n is in
      set_from s t (slice_index_or keys n 0) u.others 0 n n keys (omega arith) f.within refl
      (λ m other. ap (if_numbered m) u.changed ∙ sym (ap (if_numbered m) f.value_is ∙ other_number m n f.value f.own other))
      ∙ ap (λ slot. slice_set (stored s keys) n (if_numbered n slot)) u.changed

push_from : (n number : ℕ) (slots : List (Option Numbered)) (keys : List ℕ) (key : ℕ) → number ≡ n + length keys
    → stored_from n slots (keys ++ key ∷ []) ≡ stored_from n slots keys ++ if_numbered number (slice_index_or slots key None) ∷ []
push_from n number slots [] key e = let f : n ≡ number = omega arith in ap (λ m. if_numbered m (slice_index_or slots key None) ∷ []) f
push_from n number slots (k ∷ keys) key e =
    ap (λ xs. if_numbered n (slice_index_or slots k None) ∷ xs) (push_from (n + 1) number slots keys key (omega arith))

-- a handle is put at a free key, under the next number
pub opened_stored : (s t : Slab Numbered) (keys : List ℕ) (key number : ℕ) (handle : OpenHandle) → number ≡ length keys → get s key ≡ None
    → Updates s t key (Some (record { number = number; handle = handle })) → stored t (keys ++ key ∷ []) ≡ stored s keys ++ Some handle ∷ []
opened_stored s t keys key number handle next free u =
    let v : Numbered = record { number = number; handle = handle } in
    let last : if_numbered number (get t key) ≡ Some handle = ap (if_numbered number) u.changed ∙ same_number number v refl in
    let front : stored t keys ≡ stored s keys =
    same_from s t key u.others 0 keys
    (λ m a b. ap (if_numbered m) u.changed ∙ other_number m number v refl (λ bad. omega (arith, bad, b, next))
    ∙ sym (ap (if_numbered m) free)) in
    push_from 0 number t.slots keys key (omega arith)
    ∙ ap (λ xs. xs ++ if_numbered number (get t key) ∷ []) front
    ∙ ap (λ (x : Option OpenHandle). stored s keys ++ x ∷ []) last

-- what changes under a number that is open
pub ruleset changes = (open_is_within, put_stored, removed_stored)
