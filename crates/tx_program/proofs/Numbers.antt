-- Instructions that were read before they are executed: where they stand.
use Rattle.std.proofs.Common.{◌≡◌, ◌≢◌, ℕ, zero, ◌+◌, ◌*◌, ◌-◌, ◌/◌, ◌%◌, ◌<◌, ◌≤◌, List, [], ◌∷◌, ◌++◌}
use Rattle.std.proofs.Common.{length, get_or, set, Option, Some, None, refl, sym, ap, subst, ◌∙◌, arith, inl, inr, ◌⊎◌}
use Rattle.std.specs.Prelude.{slice_get, replicate, IfSome}
use Rattle.std.proofs.lemmas.Bool.{cases_eq, cases_lt}
use Rattle.std.proofs.lemmas.List.{get_or-set_same, get_or-set_other, get_or_past, get_or_append_left, length-set, length-append, get_or-replicate, length-replicate}
use Rattle.std.proofs.lemmas.Option.{slice_get-get_or}
use Rattle.z_regs.specs.Prefix.{storage_size}
use Rattle.tx_program.specs.declared.ready.Ready.{Ready}
use Rattle.tx_program.specs.Shapes.{IsReady}
use Rattle.tx_program.specs.Numbered.{AreRead}

-- ---- one instruction more is read

kept-earlier : (readies : List Ready) (r : Ready) (n : ℕ) → n < length readies
    → slice_get (readies ++ r ∷ []) n ≡ slice_get readies n
kept-earlier readies r n h =
    let more : n < length (readies ++ r ∷ []) = let l = length-append readies (r ∷ []) in omega (arith, h, l) in
    slice_get-get_or (readies ++ r ∷ []) n r more ∙ ap Some (get_or_append_left readies (r ∷ []) r n h)
    ∙ sym (slice_get-get_or readies n r h)

last_here : (readies : List Ready) (r : Ready) → slice_get (readies ++ r ∷ []) (length readies) ≡ Some r
last_here [] r = refl
last_here (x ∷ xs) r = last_here xs r

zeros : (n half : ℕ) → get_or (replicate n zero) half zero ≡ zero
zeros n half = elim (cases_lt half n) [
  | inl lt ↦ get_or-replicate n half zero zero lt
  | inr ge ↦ get_or_past (replicate n zero) half zero (let l = length-replicate n zero in omega (arith, l, ge))
]

same-ready : (o : Option Ready) (r q : Ready) → o ≡ Some r → o ≡ Some q → r ≡ q
same-ready o r q e h = let both : Some r ≡ Some q = sym e ∙ h in cc

pub one_read : (storage text numbers : List ℕ) (readies : List Ready) (r : Ready) (half : ℕ)
    → AreRead storage text numbers readies → half < length numbers → IsReady storage text (2 * half) r
    → AreRead storage text (set numbers half (length readies + 1)) (readies ++ r ∷ [])
one_read storage text numbers readies r half are within this = record {
  size = ap (λ n. 2 * n) (length-set numbers half (length readies + 1)) ∙ are.size;
  within = λ other. few other (cases_eq other half);
  ready = λ other q some get. found other q some get (cases_eq other half);
}
  where
    number : ℕ → ℕ
    number other = get_or (set numbers half (length readies + 1)) other 0

    total : length (readies ++ r ∷ []) ≡ length readies + 1
    total = length-append readies (r ∷ [])

    new : (other : ℕ) → other ≡ half → number other ≡ length readies + 1
    new other e = ap number e ∙ get_or-set_same numbers half (length readies + 1) 0 within

    old : (other : ℕ) → other ≢ half → number other ≡ get_or numbers other 0
    old other ne = get_or-set_other numbers half other (length readies + 1) 0 ne

    few : (other : ℕ) → (other ≡ half) ⊎ (other ≢ half) → number other ≤ length (readies ++ r ∷ [])
    few other (inl e) = let n = new other e in omega (arith, n, total)
    few other (inr ne) = let n = old other ne in let w = are.within other in omega (arith, n, w, total)

    found : (other : ℕ) (q : Ready) → 0 < number other → slice_get (readies ++ r ∷ []) (number other - 1) ≡ Some q
        → (other ≡ half) ⊎ (other ≢ half) → IsReady storage text (2 * other) q
    found other q some get (inl e) =
        let n : number other - 1 ≡ length readies = let m = new other e in omega (arith, m) in
        let same = same-ready (slice_get (readies ++ r ∷ []) (number other - 1)) r q
        (ap (slice_get (readies ++ r ∷ [])) n ∙ last_here readies r) get in
        subst (IsReady storage text (2 * other)) same
        (subst (λ h. IsReady storage text (2 * h) r) (sym e) this)
    found other q some get (inr ne) =
        let n = old other ne in
        let w = are.within other in
        let lt : number other - 1 < length readies = omega (arith, n, w, some) in
        are.ready other q (omega (arith, n, some))
        (ap (λ m. slice_get readies (m - 1)) (sym n) ∙ sym (kept-earlier readies r (number other - 1) lt) ∙ get)

pub none_read : (storage text : List ℕ) (n : ℕ) → 2 * n ≡ storage_size → AreRead storage text (replicate n zero) []
none_read storage text n h = record {
  size = let l = length-replicate n zero in omega (arith, l, h);
  within = λ half. let z = zeros n half in omega (arith, z);
  ready = λ half r some get. let z = zeros n half in absurd (omega (arith, z, some));
}

-- ---- the instruction with a number

pub number_read : {X : Type 0} (value : X → Ready) (storage text numbers : List ℕ) (readies : List Ready)
    (place number : ℕ) (found : Option X) → AreRead storage text numbers readies
    → number ≡ get_or numbers (place / 2) 0 → place % 2 ≡ 0
    → number ≢ 0 → IfSome found (λ x. slice_get readies (number - 1) ≡ Some (value x))
    → IfSome found (λ x. IsReady storage text place (value x))
number_read value storage text numbers readies place number None are e even some h = tt
number_read value storage text numbers readies place number (Some x) are e even some h =
    let half : 2 * (place / 2) ≡ place = omega (arith, even) in
    subst (λ n. IsReady storage text n (value x)) half
    (are.ready (place / 2) (value x) (omega (arith, e, some))
    (ap (λ n. slice_get readies (n - 1)) (sym e) ∙ h))
