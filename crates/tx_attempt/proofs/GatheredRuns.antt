-- Bytes that lie in one block, gathered together.
use Rattle.std.proofs.Common.{◌≡◌, ℕ, zero, suc, ◌+◌, ◌%◌, ◌<◌, ◌≤◌, true, List, [], ◌∷◌, ◌++◌}
use Rattle.std.proofs.Common.{Option, Some, None, refl, sym, ap, ◌∙◌, arith, length, take, drop, get_or, length-drop, inl, inr}
use Rattle.std.proofs.lemmas.Bool.{cases_lt}
use Rattle.std.proofs.lemmas.List.{length-take-le, take_more, take_all}
use Rattle.std.proofs.Math.Seq.{take-add}
use Rattle.z_regs.specs.Prefix.{is_prefix, absolute_of}
use Rattle.z_regs.proofs.Exchange.{area, moves}
use Rattle.store_cache.specs.Overlay.{Overlay, with_one, with_bytes}
use Rattle.store_cache.specs.Sizes.{block_size}
use Rattle.store_cache.proofs.Overlays.{with_bytes-none, with_bytes-more}
use Rattle.tx_serial.specs.Flat.{stores_at}
use Rattle.tx_progress.specs.Progress.{laying}
use Rattle.tx_attempt.proofs.GatheredBlocks.{laying-more}

-- the bytes of a block lie side by side by absolute addresses too
run-on : (prefix : Option ℕ) (a k : ℕ) → is_prefix prefix ≡ true → a % block_size + k < block_size
    → absolute_of prefix (a + k) ≡ absolute_of prefix a + k
run-on None a k ok lt = refl
run-on (Some p) a k ok lt =
    let r = area p ok in
    let m = moves p a r.low in
    let n = moves p (a + k) r.low in
    elim (cases_lt a 8192) [
      | inl low ↦
          let next : a + k < 8192 = omega (arith, low, lt) in
          omega (arith, m.first low, n.first next)
      | inr high ↦ elim (cases_lt a p) [
        | inl below ↦
            let next : a + k < p = omega (arith, below, lt, r.aligned) in
            let above : 8192 ≤ a + k = omega (arith, high) in
            omega (arith, m.between high below, n.between above next)
        | inr from ↦ elim (cases_lt a (p + 8192)) [
          | inl own ↦
              let next : a + k < p + 8192 = omega (arith, own, lt, r.aligned) in
              let above : p ≤ a + k = omega (arith, from) in
              omega (arith, m.own from own, n.own above next)
          | inr past ↦
              let above : p + 8192 ≤ a + k = omega (arith, past) in
              omega (arith, m.beyond past, n.beyond above)
        ]
      ]
    ]

-- an address keeps its place in its block
pub place-in-block : (prefix : Option ℕ) (a : ℕ) → is_prefix prefix ≡ true
    → absolute_of prefix a % block_size ≡ a % block_size
place-in-block None a ok = refl
place-in-block (Some p) a ok =
    let r = area p ok in
    let m = moves p a r.low in
    elim (cases_lt a 8192) [
      | inl low ↦ omega (arith, m.first low, r.aligned)
      | inr high ↦ elim (cases_lt a p) [
        | inl below ↦ omega (arith, m.between high below)
        | inr from ↦ elim (cases_lt a (p + 8192)) [
          | inl own ↦ omega (arith, m.own from own, r.aligned)
          | inr past ↦ omega (arith, m.beyond past)
        ]
      ]
    ]

with-run : (prefix : Option ℕ) (a : ℕ) (bytes : List ℕ) (o : Overlay) (k : ℕ) → is_prefix prefix ≡ true
    → a % block_size + k ≤ block_size → k ≤ length bytes
    → with_bytes o (absolute_of prefix a) (take k bytes) ≡ laying o (stores_at prefix a (take k bytes))
with-run prefix a bytes o zero ok few within = with_bytes-none o (absolute_of prefix a)
with-run prefix a bytes o (suc k) ok few within =
    let next : suc k ≡ k + 1 = omega arith in
    let place = absolute_of prefix a in
    let xs = take k bytes in
    let b = get_or bytes k 0 in
    let under : k < length bytes = omega (arith, within) in
    let size : length xs ≡ k = length-take-le k bytes (omega (arith, within)) in
    let there : absolute_of prefix (a + k) ≡ place + k = run-on prefix a k ok (omega (arith, few)) in
    let more : take (suc k) bytes ≡ xs ++ b ∷ [] = ap (λ n. take n bytes) next ∙ take_more bytes k 0 under in
    let before : with_bytes o place xs ≡ laying o (stores_at prefix a xs) =
    with-run prefix a bytes o k ok (omega (arith, few)) (omega (arith, within)) in
    let at : place + length xs ≡ absolute_of prefix (a + length xs) =
    ap (λ n. place + n) size ∙ sym there ∙ ap (λ n. absolute_of prefix (a + n)) (sym size) in
    ap (with_bytes o place) more
    ∙ with_bytes-more o place xs b
    ∙ ap (λ (v : Overlay). with_one v (place + length xs) b) before
    ∙ ap (λ n. with_one (laying o (stores_at prefix a xs)) n b) at
    ∙ sym (laying-more prefix a xs b o)
    ∙ ap (λ (bs : List ℕ). laying o (stores_at prefix a bs)) (sym more)

-- bytes of one block that are stored together are stored one after the other
pub run-laid : (prefix : Option ℕ) (a : ℕ) (bytes : List ℕ) (o : Overlay) → is_prefix prefix ≡ true
    → a % block_size + length bytes ≤ block_size
    → with_bytes o (absolute_of prefix a) bytes ≡ laying o (stores_at prefix a bytes)
run-laid prefix a bytes o ok fits =
    let all : take (length bytes) bytes ≡ bytes = take_all (length bytes) bytes (omega arith) in
    ap (with_bytes o (absolute_of prefix a)) (sym all)
    ∙ with-run prefix a bytes o (length bytes) ok fits (omega arith)
    ∙ ap (λ (bs : List ℕ). laying o (stores_at prefix a bs)) all

-- stores of two lists of bytes, one behind the other
laying-append : (prefix : Option ℕ) (a : ℕ) (xs ys : List ℕ) (o : Overlay)
    → laying o (stores_at prefix a (xs ++ ys))
    ≡ laying (laying o (stores_at prefix a xs)) (stores_at prefix (a + length xs) ys)
laying-append prefix a [] ys o =
    let same : a ≡ a + 0 = omega arith in ap (λ k. laying o (stores_at prefix k ys)) same
laying-append prefix a (x ∷ xs) ys o =
    let same : suc a + length xs ≡ a + suc (length xs) = omega arith in
    let next : Overlay = with_one o (absolute_of prefix a) x in
    laying-append prefix (suc a) xs ys next
    ∙ ap (λ k. laying (laying next (stores_at prefix (suc a) xs)) (stores_at prefix k ys)) same

-- a piece more is gathered
pub piece-laid : (prefix : Option ℕ) (a : ℕ) (bytes : List ℕ) (done count : ℕ) (o : Overlay)
    → is_prefix prefix ≡ true → done + count ≤ length bytes → (a + done) % block_size + count ≤ block_size
    → with_bytes (laying o (stores_at prefix a (take done bytes))) (absolute_of prefix (a + done))
    (take count (drop done bytes)) ≡ laying o (stores_at prefix a (take (done + count) bytes))
piece-laid prefix a bytes done count o ok within fits =
    let piece = take count (drop done bytes) in
    let before = take done bytes in
    let size : length before ≡ done = length-take-le done bytes (omega (arith, within)) in
    let piece_size : length piece ≡ count =
    length-take-le count (drop done bytes) (omega (arith, within, length-drop done bytes)) in
    let here : a + done ≡ a + length before = omega (arith, size) in
    run-laid prefix (a + done) piece (laying o (stores_at prefix a before)) ok (omega (arith, fits, piece_size))
    ∙ ap (λ k. laying (laying o (stores_at prefix a before)) (stores_at prefix k piece)) here
    ∙ sym (laying-append prefix a before piece o)
    ∙ ap (λ (bs : List ℕ). laying o (stores_at prefix a bs)) (sym (take-add done count bytes))
