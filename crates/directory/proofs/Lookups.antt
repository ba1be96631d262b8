-- What the ordered file tells of entries is what the list of codes and numbers says.
use Rattle.std.proofs.Common.{◌≡◌, ℕ, zero, suc, ◌<◌, Bool, true, false, cond, ltb, List, [], ◌∷◌, map, length, get_or, is_some, is_ok, Some, None, Ok, Err, Result, sym, refl, ap, ◌∙◌, subst, ⊎_elim, arith}
use Rattle.std.specs.Option.{ok_or}
use Rattle.std.proofs.lemmas.List.{length-map}
use Rattle.std.proofs.lemmas.Bool.{false_from_ne_true, false≢true, both_ways, cases_Bool, cases_lt, cond-true, cond-false, eq-eqb, eqb-true, and_parts, and_from}
use Rattle.ordered.specs.Files.{in_use, room, Ascends, place, holds, ToldByPlace, filed, insertion, told, left}
use Rattle.ordered.specs.declared.file.OrderedFile.{OrderedFile}
use Rattle.ordered.specs.declared.file.InsertFault.{InsertFault}
use Rattle.ordered.specs.declared.file.InsertFault.TheVariants as ordered
use Rattle.ordered.proofs.Order.{Ascends-far}
use Rattle.ordered.proofs.Places.{told_by_place}
use Rattle.directory.specs.declared.code.Entry.{Entry}
use Rattle.terms.specs.declared.faults.DirectoryFault.{DirectoryFault}
use Rattle.terms.specs.declared.faults.DirectoryFault.TheVariants.{Form, Present, Full, Missing}
use Rattle.directory.specs.Codes.{well_formed, precedes, text_of, earlier}
use Rattle.terms.specs.Faults.{as_directory}
use Rattle.directory.specs.Entries.{Listed, listed, same, number_in, with, entering, finding}
use Rattle.directory.specs.Ranks.{precedes_self, by_code}

pub same_self : (xs : List ℕ) → same xs xs ≡ true
same_self [] = refl
same_self (x ∷ xs) = and_from _ _ (eq-eqb x x refl) (same_self xs)

pub same_is : (xs ys : List ℕ) → same xs ys ≡ true → xs ≡ ys
same_is [] [] e = refl
same_is [] (y ∷ ys) e = absurd (false≢true e)
same_is (x ∷ xs) [] e = absurd (false≢true e)
same_is (x ∷ xs) (y ∷ ys) e = let p = and_parts _ _ e in let h = eqb-true x y p.0 in let t = same_is xs ys p.1 in λ i. h i ∷ t i

-- codes of which one comes before the other are not the same
pub apart_before : (xs ys : List ℕ) → precedes xs ys ≡ true → same xs ys ≡ false
apart_before xs ys p = false_from_ne_true _ (λ e. both_ways _ (precedes_self ys) (subst (λ l. precedes l ys ≡ true) (same_is xs ys e) p))

pub apart_after : (xs ys : List ℕ) → precedes ys xs ≡ true → same xs ys ≡ false
apart_after xs ys p = false_from_ne_true _ (λ e. both_ways _ (precedes_self ys) (subst (λ l. precedes ys l ≡ true) (same_is xs ys e) p))

-- the first entry of a code has its number
number_in_first : (xs : List Entry) (c : List ℕ) (i : ℕ) (d : Entry) → i < length xs → ((j : ℕ) → j < i → same (text_of (get_or xs j d)) c ≡ false) → text_of (get_or xs i d) ≡ c → number_in (map listed xs) c ≡ Some (get_or xs i d).number
number_in_first [] c i d l n e = absurd (omega arith)
number_in_first (x ∷ xs) c zero d l n e = cond-true _ _ _ (subst (λ t. same (text_of x) t ≡ true) e (same_self (text_of x)))
number_in_first (x ∷ xs) c (suc i) d l n e =
    cond-false _ _ _ (n 0 (omega arith)) ∙ number_in_first xs c i d (omega arith) (λ j m. n (suc j) (omega arith)) e

number_in_none : (xs : List Entry) (c : List ℕ) → ((k : ℕ) (d : Entry) → k < length xs → same (text_of (get_or xs k d)) c ≡ false) → number_in (map listed xs) c ≡ None
number_in_none [] c n = refl
number_in_none (x ∷ xs) c n = cond-false _ _ _ (n 0 x (omega arith)) ∙ number_in_none xs c (λ k d l. n (suc k) d (omega arith))

-- what a search for an entry's code finds
abbrev pub LookedUp : List Entry → Entry → Result ℕ ℕ → Type 0
LookedUp xs e (Ok i) = (d : Entry) → number_in (map listed xs) (text_of e) ≡ Some (get_or xs i d).number
LookedUp xs e (Err i) = number_in (map listed xs) (text_of e) ≡ None

pub looked_up : (xs : List Entry) (e : Entry) → Ascends earlier xs → (r : Result ℕ ℕ) → ToldByPlace earlier text_of e xs r → LookedUp xs e r
looked_up xs e up (Ok i) t =
    λ d. number_in_first xs (text_of e) i d t.0 (λ j l. apart_before (text_of (get_or xs j d)) (text_of e) (subst (λ c. precedes (text_of (get_or xs j d)) c ≡ true) (t.1 d) (Ascends-far by_code xs up j i d l t.0))) (t.1 d)
looked_up xs e up (Err i) t =
    number_in_none xs (text_of e)
    (λ k d l. ⊎_elim (λ b. apart_before (text_of (get_or xs k d)) (text_of e) (t.1 k d b)) (λ a. apart_after (text_of (get_or xs k d)) (text_of e) (t.2 k d a l)) (cases_lt k i))

-- a code is held exactly where it has a number
pub holds_known : (xs : List Entry) (e : Entry) → Ascends earlier xs → holds earlier e xs ≡ is_some (number_in (map listed xs) (text_of e))
holds_known xs e up =
    ⊎_elim
    (λ h. h ∙ sym (ap is_some (looked_up xs e up (Ok (place earlier e xs)) (told_by_place by_code e xs up _ (sym (cond-true _ _ _ h))) e)))
    (λ h. h ∙ sym (ap is_some (looked_up xs e up (Err (place earlier e xs)) (told_by_place by_code e xs up _ (sym (cond-false _ _ _ h))))))
    (cases_Bool (holds earlier e xs))

-- an entry filed is a code with its number put in its place
pub with-filed : (e : Entry) (xs : List Entry) → map listed (filed earlier e xs) ≡ with (listed e) (map listed xs)
with-filed e [] = refl
with-filed e (x ∷ xs) =
    elim (earlier x e) as (λ v. map listed (cond v (x ∷ filed earlier e xs) (e ∷ (x ∷ xs))) ≡ cond v (listed x ∷ with (listed e) (map listed xs)) (listed e ∷ (listed x ∷ map listed xs)))
    [ true ↦ ap (λ l. listed x ∷ l) (with-filed e xs) | false ↦ refl ]

-- the ordered file's outcome, as the directory tells it
abbrev pub retold : Result (List Entry) InsertFault → Result (List Listed) DirectoryFault
retold (Ok xs) = Ok (map listed xs)
retold (Err e) = Err (as_directory e)

pub entering_is : (n : ℕ) (xs : List Entry) (e : Entry) → Ascends earlier xs → well_formed (text_of e) ≡ true → entering n (map listed xs) (text_of e) e.number ≡ retold (insertion earlier n xs e)
entering_is n xs e up w =
    cond-true _ _ _ w ∙ ap (λ h. cond h (Err Present) (cond (ltb (length (map listed xs)) n) (Ok (with (listed e) (map listed xs))) (Err Full))) (sym (holds_known xs e up))
    ∙ ap (λ k. cond (holds earlier e xs) (Err Present) (cond (ltb k n) (Ok (with (listed e) (map listed xs))) (Err Full))) (length-map xs listed)
    ∙ ap (λ l. cond (holds earlier e xs) (Err Present) (cond (ltb (length xs) n) (Ok l) (Err Full))) (sym (with-filed e xs))
    ∙ both (holds earlier e xs) (ltb (length xs) n)
  where
    both : (p q : Bool) → cond p (Err Present) (cond q (Ok (map listed (filed earlier e xs))) (Err Full)) ≡ retold (cond p (Err ordered.Present) (cond q (Ok (filed earlier e xs)) (Err ordered.Full)))
    both true q = refl
    both false true = refl
    both false false = refl

-- the answer to an insertion, as the directory tells it
abbrev pub retold_answer : Result (Unit {0}) InsertFault → Result (Unit {0}) DirectoryFault
retold_answer (Ok u) = Ok u
retold_answer (Err e) = Err (as_directory e)

left-retold : (xs : List Entry) (o : Result (List Entry) InsertFault) → map listed (left xs o) ≡ left (map listed xs) (retold o)
left-retold xs (Ok ys) = refl
left-retold xs (Err e) = refl

told-retold : (o : Result (List Entry) InsertFault) → retold_answer (told o) ≡ told (retold o)
told-retold (Ok ys) = refl
told-retold (Err e) = refl

module _ (f : OrderedFile Entry) (e : Entry) (c : List ℕ) (is : text_of e ≡ c) (w : well_formed c ≡ true) (up : Ascends earlier (in_use f)) where
  outcome : entering (room f) (map listed (in_use f)) c e.number ≡ retold (insertion earlier (room f) (in_use f) e)
  outcome = subst (λ t. entering (room f) (map listed (in_use f)) t e.number ≡ retold (insertion earlier (room f) (in_use f) e)) is (entering_is (room f) (in_use f) e up (rw is w))

  -- the entries after an insertion
  pub entered : (f' : OrderedFile Entry) → in_use f' ≡ left (in_use f) (insertion earlier (room f) (in_use f) e)
      → map listed (in_use f') ≡ left (map listed (in_use f)) (entering (room f) (map listed (in_use f)) c e.number)
  entered f' after = ap (map listed) after ∙ left-retold (in_use f) (insertion earlier (room f) (in_use f) e) ∙ ap (left (map listed (in_use f))) (sym outcome)

  -- the answer to an insertion
  pub answered : (r : Result (Unit {0}) InsertFault) → r ≡ told (insertion earlier (room f) (in_use f) e)
      → retold_answer r ≡ told (entering (room f) (map listed (in_use f)) c e.number)
  answered r told_r = ap retold_answer told_r ∙ told-retold (insertion earlier (room f) (in_use f) e) ∙ ap told (sym outcome)

  -- what a search for a code tells
  pub found_at : (i : ℕ) (d : Entry) → ToldByPlace earlier text_of e (in_use f) (Ok i) → Ok (get_or (in_use f) i d).number ≡ finding (map listed (in_use f)) c
  found_at i d t =
      sym (cond-true (well_formed c) (ok_or (number_in (map listed (in_use f)) c) Missing) (Err Form) w
      ∙ ap (λ o. ok_or o Missing) (ap (number_in (map listed (in_use f))) (sym is) ∙ looked_up (in_use f) e up (Ok i) t d))

  pub found_none : (r : Result ℕ ℕ) → is_ok r ≡ false → ToldByPlace earlier text_of e (in_use f) r → Err Missing ≡ finding (map listed (in_use f)) c
  found_none (Ok i) none t = absurd (false≢true (sym none))
  found_none (Err i) none t =
      sym (cond-true (well_formed c) (ok_or (number_in (map listed (in_use f)) c) Missing) (Err Form) w
      ∙ ap (λ o. ok_or o Missing) (ap (number_in (map listed (in_use f))) (sym is) ∙ looked_up (in_use f) e up (Err i) t))
