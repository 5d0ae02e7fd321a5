-- Lists that are known by each of their places.
use Rattle.std.proofs.Common.{◌≡◌, ℕ, ◌+◌, ◌*◌, ◌/◌, ◌%◌, ◌<◌, List, length, map, get_or, refl}
use Rattle.std.proofs.Common.{sym, subst, ◌∙◌, arith}
use Rattle.std.specs.List.{range_with_len}
use Rattle.std.proofs.lemmas.List.{ext_get_or}
use Rattle.std.proofs.lemmas.List.FromFn.{get_or-map-range_with_len, length-map-range_with_len}
use Rattle.step_changes.specs.Seen.{CpuSeen, Shown, cpus_seen, word_at, words_of}

-- a list that has the value of a function at each place
pub all_listed : {X : Type 0} (f : ℕ → X) (xs : List X) (n : ℕ) → length xs ≡ n
    → ((k : ℕ) (d : X) → k < n → get_or xs k d ≡ f k) → xs ≡ map f (range_with_len 0 n)
all_listed f xs n size each =
    ext_get_or (f 0) xs (map f (range_with_len 0 n)) (size ∙ sym (length-map-range_with_len f 0 n))
    (λ i low. let inside : i < n = subst (λ k. i < k) size low in
    let here : 0 + i ≡ i = omega arith in
    each i (f 0) inside ∙ sym (get_or-map-range_with_len f 0 n i i (f 0) inside here))

-- the same of words of storage
pub all_words : (storage : ℕ → ℕ) (xs : List (List ℕ)) → length xs ≡ 131072
    → ((w : ℕ) (d : List ℕ) → w < 131072 → get_or xs w d ≡ word_at storage w) → xs ≡ words_of storage
unfolding words_of
all_words storage xs size each = all_listed (word_at storage) xs 131072 size each

pub words_size : (storage : ℕ → ℕ) → length (words_of storage) ≡ 131072
unfolding words_of
words_size storage = length-map-range_with_len (word_at storage) 0 131072

pub word_there : (storage : ℕ → ℕ) (w : ℕ) (d : List ℕ) → w < 131072
    → get_or (words_of storage) w d ≡ word_at storage w
unfolding words_of
word_there storage w d low =
    let here : 0 + w ≡ w = omega arith in
    get_or-map-range_with_len (word_at storage) 0 131072 w w d low here

-- a byte stands in its word
pub byte_in : (storage : ℕ → ℕ) (a d : ℕ) → get_or (word_at storage (a / 8)) (a % 8) d ≡ storage a
byte_in storage a d =
    let low : a % 8 < 8 = omega arith in
    let here : 8 * (a / 8) + a % 8 ≡ a = omega arith in
    get_or-map-range_with_len storage (8 * (a / 8)) 8 (a % 8) a d low here

-- words are the same where all their bytes are
pub same_word : (f g : ℕ → ℕ) (w : ℕ) → ((a : ℕ) → a / 8 ≡ w → f a ≡ g a) → word_at f w ≡ word_at g w
same_word f g w same =
    let size = length-map-range_with_len f (8 * w) 8 in
    ext_get_or 0 (word_at f w) (word_at g w) (size ∙ sym (length-map-range_with_len g (8 * w) 8))
    (λ i low. let inside : i < 8 = subst (λ k. i < k) size low in
    let there : (8 * w + i) / 8 ≡ w = omega arith in
    get_or-map-range_with_len f (8 * w) 8 i (8 * w + i) 0 inside refl ∙ same (8 * w + i) there
    ∙ sym (get_or-map-range_with_len g (8 * w) 8 i (8 * w + i) 0 inside refl))

pub cpus_size : (v : Shown) → length (cpus_seen v) ≡ v.count
cpus_size v = length-map-range_with_len v.cpu 0 v.count

pub cpu_at : (v : Shown) (i : ℕ) (d : CpuSeen) → i < v.count → get_or (cpus_seen v) i d ≡ v.cpu i
cpu_at v i d low =
    let here : 0 + i ≡ i = omega arith in
    get_or-map-range_with_len v.cpu 0 v.count i i d low here
