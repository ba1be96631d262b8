-- After any attempts, the directory answers by the accepted ones alone.
use Rattle.std.proofs.Common.{◌≡◌, ℕ, suc, Bool, true, false, cond, not, ◌&&◌, ltb, List, [], ◌∷◌, map, length, is_some, Some, None, Ok, Err, Option, Result, sym, refl, ap, ◌∙◌, subst, ⊎_elim, arith}
use Rattle.std.specs.Option.{ok_or}
use Rattle.std.proofs.lemmas.Bool.{both_ways, cases_Bool, cond-true, cond-false, and_parts, not-true}
use Rattle.ordered.specs.declared.file.InsertFault.{InsertFault}
use Rattle.ordered.specs.declared.file.OrderedFile.{OrderedFile}
use Rattle.ordered.specs.Files.{in_use, room, Ascends, insertion, told, left}
use Rattle.terms.specs.declared.faults.DirectoryFault.{DirectoryFault}
use Rattle.terms.specs.declared.faults.DirectoryFault.TheVariants.{Form, Present, Full, Missing}
use Rattle.directory.specs.declared.code.Entry.{Entry}
use Rattle.directory.specs.Codes.{well_formed, precedes, text_of, earlier}
use Rattle.directory.specs.Entries.{Listed, listed, same, number_in, with, entering, finding}
use Rattle.directory.specs.Promise.{accepted, filled}
use Rattle.directory.proofs.Lookups.{same_self, same_is, retold_answer, entered, answered}

none_from : (o : Option ℕ) → is_some o ≡ false → o ≡ None
none_from None e = refl
none_from (Some x) e = absurd (both_ways true e refl)

-- a code that is put in is found with its number, and every other code as before
number_in-with : (a : Listed) (es : List Listed) (c : List ℕ) → number_in es a.code ≡ None → number_in (with a es) c ≡ cond (same a.code c) (Some a.number) (number_in es c)
number_in-with a [] c n = refl
number_in-with a (e ∷ es) c n =
    ⊎_elim
    (λ p. rw p (ap (cond (same e.code c) (Some e.number)) (number_in-with a es c (rest apart)) ∙ swapped (same e.code c) (same a.code c) both))
    (λ p. rw p refl)
    (cases_Bool (precedes e.code a.code))
  where
    apart : same e.code a.code ≡ false
    apart = ⊎_elim (λ t. absurd (let z : Some e.number ≡ None = sym (cond-true _ _ _ t) ∙ n in grind arith)) (λ f. f) (cases_Bool (same e.code a.code))

    rest : same e.code a.code ≡ false → number_in es a.code ≡ None
    rest f = sym (cond-false _ _ _ f) ∙ n

    both : same e.code c ≡ true → same a.code c ≡ true → ⊥
    both p q = both_ways _ apart (subst (λ d. same e.code d ≡ true) (same_is e.code c p ∙ sym (same_is a.code c q)) (same_self e.code))

    swapped : (p q : Bool) → (p ≡ true → q ≡ true → ⊥) → cond p (Some e.number) (cond q (Some a.number) (number_in es c)) ≡ cond q (Some a.number) (cond p (Some e.number) (number_in es c))
    swapped true true h = absurd (h refl refl)
    swapped true false h = refl
    swapped false q h = refl

length-with : (a : Listed) (es : List Listed) → length (with a es) ≡ suc (length es)
length-with a [] = refl
length-with a (e ∷ es) =
    elim (precedes e.code a.code) as (λ v. length (cond v (e ∷ with a es) (a ∷ (e ∷ es))) ≡ suc (suc (length es)))
    [ true ↦ ap suc (length-with a es) | false ↦ refl ]

-- an attempt changes the entries exactly where it passes the test
filled_more : (n : ℕ) (a : Listed) (es : List Listed) → left es (entering n es a.code a.number) ≡ cond (well_formed a.code && (not (is_some (number_in es a.code)) && ltb (length es) n)) (with a es) es
filled_more n a es = all (well_formed a.code) (is_some (number_in es a.code)) (ltb (length es) n)
  where
    all : (w p q : Bool) → left es (cond w (cond p (Err Present) (cond q (Ok (with a es)) (Err Full))) (Err Form)) ≡ cond (w && (not p && q)) (with a es) es
    all true true q = refl
    all true false true = refl
    all true false false = refl
    all false p q = refl

-- two lists with the same look-ups and the same length
record Alike (es bs : List Listed) : Type 0 where
  finds : (c : List ℕ) → number_in es c ≡ number_in bs c
  long : length es ≡ length bs

grown : (a : Listed) (es bs : List Listed) → Alike es bs → (v : Bool) → (v ≡ true → number_in es a.code ≡ None) → Alike (cond v (with a es) es) (cond v (a ∷ bs) bs)
grown a es bs h true none = record {
  finds = λ c. number_in-with a es c (none refl) ∙ ap (cond (same a.code c) (Some a.number)) (h.finds c);
  long = length-with a es ∙ ap suc h.long;
}
grown a es bs h false none = h

alike : (n : ℕ) (attempts : List Listed) → Alike (filled n attempts) (accepted n attempts)
alike n [] = record { finds = λ c. refl; long = refl }
alike n (a ∷ more) =
    let es = filled n more in
    let bs = accepted n more in
    let h = alike n more in
    let passes = λ (o : Option ℕ) (k : ℕ). well_formed a.code && (not (is_some o) && ltb k n) in
    let tested : passes (number_in es a.code) (length es) ≡ passes (number_in bs a.code) (length bs) = λ i. passes (h.finds a.code i) (h.long i) in
    let fresh : passes (number_in bs a.code) (length bs) ≡ true → number_in es a.code ≡ None =
    λ t. none_from _ (not-true _ (and_parts _ _ (and_parts _ _ (tested ∙ t)).1).0) in
    subst (λ l. Alike l (accepted n (a ∷ more))) (sym (filled_more n a es ∙ ap (λ v. cond v (with a es) es) tested)) (grown a es bs h _ fresh)

-- a search answers by what was accepted
pub finding-accepted : (n : ℕ) (attempts : List Listed) (c : List ℕ) → finding (filled n attempts) c ≡ finding (accepted n attempts) c
finding-accepted n attempts c = ap (λ o. cond (well_formed c) (ok_or o Missing) (Err Form)) ((alike n attempts).finds c)

-- one attempt more
pub goes_on : (n n' : ℕ) (es es' : List Listed) (a : Listed) → n' ≡ n → es' ≡ left es (entering n es a.code a.number) → (attempts : List Listed) → es ≡ filled n attempts → es' ≡ filled n' (a ∷ attempts)
goes_on n n' es es' a room after attempts held =
    after ∙ ap (λ l. left l (entering n l a.code a.number)) held ∙ ap (λ m. left (filled m attempts) (entering m (filled m attempts) a.code a.number)) (sym room)

-- what an insertion into the file of a directory tells: its answer, the entries after it, and those after any attempts and this one
pub record Attempted (n n' : ℕ) (es es' : List Listed) (a : Listed) (r : Result (Unit {0}) DirectoryFault) : Type 0 where
  pub answers : r ≡ told (entering n es a.code a.number)
  pub items : es' ≡ left es (entering n es a.code a.number)
  pub attempts : (attempts : List Listed) → es ≡ filled n attempts → es' ≡ filled n' (a ∷ attempts)

pub attempted : (f : OrderedFile Entry) (e : Entry) (c : List ℕ) → text_of e ≡ c → well_formed c ≡ true → Ascends earlier (in_use f) → (f' : OrderedFile Entry) (r : Result (Unit {0}) InsertFault)
    → r ≡ told (insertion earlier (room f) (in_use f) e) → in_use f' ≡ left (in_use f) (insertion earlier (room f) (in_use f) e) → room f' ≡ room f
    → Attempted (room f) (room f') (map listed (in_use f)) (map listed (in_use f')) (record { code = c; number = e.number }) (retold_answer r)
attempted f e c is w up f' r answer after memory =
    let items = entered f e c is w up f' after in
    record { answers = answered f e c is w up r answer; items = items; attempts = goes_on (room f) (room f') (map listed (in_use f)) (map listed (in_use f')) (record { code = c; number = e.number }) memory items }

-- what a look-up answers, it answers by the accepted attempts alone
pub record Found (n : ℕ) (es : List Listed) (c : List ℕ) (r : Result ℕ DirectoryFault) : Type 0 where
  pub value : r ≡ finding es c
  pub accepted : (attempts : List Listed) → es ≡ filled n attempts → r ≡ finding (accepted n attempts) c

pub found : (n : ℕ) (es : List Listed) (c : List ℕ) (r : Result ℕ DirectoryFault) → r ≡ finding es c → Found n es c r
found n es c r answer = record { value = answer; accepted = λ attempts held. answer ∙ ap (λ l. finding l c) held ∙ finding-accepted n attempts c }
