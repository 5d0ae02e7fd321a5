-- The places of marks, part after part.
use Rattle.std.proofs.Common.{◌≡◌, ℕ, suc, ◌+◌, ◌<◌, ◌≤◌, Bool, true, false, ◌||◌, cond, List, [], ◌∷◌}
use Rattle.std.proofs.Common.{◌++◌, length, take, drop, get_or, refl, sym, ap, ◌∙◌, arith, append_assoc, append-nil}
use Rattle.std.proofs.lemmas.Bool.{true≢false}
use Rattle.std.proofs.lemmas.List.{length-take-le, take_more}
use Rattle.std.proofs.Math.Seq.{take-add}
use Rattle.z_assemble.specs.Whole.{places_from, with_place}

-- those of marks behind others come behind those of the others
pub places-append : (n : ℕ) (xs ys : List Bool) →
    places_from n (xs ++ ys) ≡ places_from n xs ++ places_from (n + length xs) ys
unfolding places_from
places-append n [] ys = ap (λ k. places_from k ys) (let e : n ≡ n + 0 = omega arith in e)
places-append n (true ∷ xs) ys =
    ap (λ l. n ∷ l) (places-append (suc n) xs ys
    ∙ ap (λ k. places_from (suc n) xs ++ places_from k ys)
    (let e : suc n + length xs ≡ n + suc (length xs) = omega arith in e))
places-append n (false ∷ xs) ys =
    places-append (suc n) xs ys
    ∙ ap (λ k. places_from (suc n) xs ++ places_from k ys)
    (let e : suc n + length xs ≡ n + suc (length xs) = omega arith in e)

pub places_none : (n : ℕ) → places_from n [] ≡ []
unfolding places_from
places_none n = refl

one_place : (n : ℕ) (mark : Bool) → places_from n (mark ∷ []) ≡ cond mark (n ∷ []) []
unfolding places_from
one_place n mark = refl

-- a mark more
places_more : (n : ℕ) (marks : List Bool) (k : ℕ) (d : Bool) → k < length marks →
    places_from n (take (k + 1) marks) ≡
    places_from n (take k marks) ++ cond (get_or marks k d) ((n + k) ∷ []) []
places_more n marks k d h =
    let size : length (take k marks) ≡ k = length-take-le k marks (omega arith) in
    ap (places_from n) (take_more marks k d h)
    ∙ places-append n (take k marks) (get_or marks k d ∷ [])
    ∙ ap (λ j. places_from n (take k marks) ++ places_from (n + j) (get_or marks k d ∷ [])) size
    ∙ ap (λ l. places_from n (take k marks) ++ l) (one_place (n + k) (get_or marks k d))

place_added : (mark : Bool) (p : ℕ) (xs : List ℕ) → with_place mark p xs ≡ xs ++ cond mark (p ∷ []) []
place_added true p xs = refl
place_added false p xs = sym (append-nil xs)

pub place_step : (first k : ℕ) (marks : List Bool) (d mark : Bool) (old now : List ℕ) → k < length marks →
    get_or marks k d ≡ mark → now ≡ old ++ places_from first (take k marks) →
    with_place mark (first + k) now ≡ old ++ places_from first (take (k + 1) marks)
place_step first k marks d mark old now h e f =
    place_added mark (first + k) now
    ∙ ap (λ xs. xs ++ cond mark ((first + k) ∷ []) []) f
    ∙ append_assoc old (places_from first (take k marks)) (cond mark ((first + k) ∷ []) [])
    ∙ ap (λ b. old ++ (places_from first (take k marks) ++ cond b ((first + k) ∷ []) [])) (sym e)
    ∙ ap (λ l. old ++ l) (sym (places_more first marks k d h))

-- no mark yet, and none here
pub unmarked_step : (marks : List Bool) (k : ℕ) (d before mark : Bool) → k < length marks →
    get_or marks k d ≡ mark →
    (before ≡ false → (n : ℕ) → places_from n (take k marks) ≡ []) →
    (before || mark) ≡ false → (n : ℕ) → places_from n (take (k + 1) marks) ≡ []
unmarked_step marks k d false false h e f g n =
    places_more n marks k d h
    ∙ ap (λ b. places_from n (take k marks) ++ cond b ((n + k) ∷ []) []) e
    ∙ append-nil (places_from n (take k marks))
    ∙ f refl n
unmarked_step marks k d false true h e f g n = absurd (true≢false g)
unmarked_step marks k d true mark h e f g n = absurd (true≢false g)

-- a part more
pub part_step : (marks : List Bool) (first size : ℕ) (now new : List ℕ) → first + size ≤ length marks →
    now ≡ places_from 0 (take first marks) →
    new ≡ now ++ places_from first (take size (drop first marks)) →
    new ≡ places_from 0 (take (first + size) marks)
part_step marks first size now new h e f =
    let many : length (take first marks) ≡ first = length-take-le first marks (omega arith) in
    f
    ∙ ap (λ xs. xs ++ places_from first (take size (drop first marks))) e
    ∙ ap (λ k. places_from 0 (take first marks) ++ places_from k (take size (drop first marks)))
    (let begin : first ≡ 0 + length (take first marks) = omega (arith, many) in begin)
    ∙ sym (places-append 0 (take first marks) (take size (drop first marks)))
    ∙ ap (places_from 0) (sym (take-add first size marks))
