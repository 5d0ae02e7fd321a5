-- Which blocks have a stored byte.
use Rattle.std.proofs.Common.{◌≡◌, ◌≢◌, ℕ, ◌+◌, ◌*◌, ◌/◌, ◌%◌, ◌<◌, Bool, true, false, ltb}
use Rattle.std.proofs.Common.{is_some, refl, sym, ap, ◌∙◌, arith}
use Rattle.std.proofs.lemmas.Bool.{cases_eq, lt-ltb, le-ltb}
use Rattle.bit_set.specs.Counts.{one_if, count_below, but_at}
use Rattle.bit_set.proofs.Counts.{count_agree, count_but_at, but_at-same, but_at-other, count_none}
use borrow.Enum.Arm.{by_way}
use Rattle.store_cache.specs.Sizes.{block_size}
use Rattle.store_cache.specs.Overlay.{Overlay, nothing, with_one, has_block}
use Rattle.store_cache.proofs.Overlays.{with_one-here, with_one-other}

-- a test that one number passes
some_pass : (n : ℕ) (f : ℕ → Bool) (at : ℕ) → at < n → f at ≡ true → 0 < count_below n f
some_pass n f at lt pass =
    let same = count_agree n f (but_at f at true) (λ k under. stays k) in
    let one = count_but_at n (but_at f at true) at false lt in
    let was : one_if (but_at f at true at) ≡ 1 = ap one_if (but_at-same f at true) in
    omega (arith, same, one, was)
  where
    stays : (k : ℕ) → f k ≡ but_at f at true k
    stays k = by_way (cases_eq k at)
        (λ e. ap f e ∙ pass ∙ sym (ap (but_at f at true) e ∙ but_at-same f at true))
        (λ ne. sym (but_at-other f at true k ne))

pub has_block-at : (overlay : Overlay) (block at : ℕ) → at < block_size
    → is_some (overlay (block * block_size + at)) ≡ true → has_block overlay block ≡ true
unfolding has_block
has_block-at overlay block at lt some =
    lt-ltb 0 (count_below block_size (λ k. is_some (overlay (block * block_size + k))))
    (some_pass block_size (λ k. is_some (overlay (block * block_size + k))) at lt some)

pub has_block-none : (overlay : Overlay) (block : ℕ)
    → ((at : ℕ) → at < block_size → is_some (overlay (block * block_size + at)) ≡ false)
    → has_block overlay block ≡ false
unfolding has_block
has_block-none overlay block none =
    le-ltb 0 (count_below block_size (λ k. is_some (overlay (block * block_size + k))))
    (omega (arith, count_none block_size (λ k. is_some (overlay (block * block_size + k))) none))

pub has_block-agree : (a b : Overlay) (block : ℕ)
    → ((at : ℕ) → at < block_size → a (block * block_size + at) ≡ b (block * block_size + at))
    → has_block a block ≡ has_block b block
unfolding has_block
has_block-agree a b block same =
    ap (λ n. ltb 0 n) (count_agree block_size (λ k. is_some (a (block * block_size + k)))
    (λ k. is_some (b (block * block_size + k))) (λ k lt. ap is_some (same k lt)))

-- a stored byte makes its block a stored one, and no other
pub has_block-here : (overlay : Overlay) (address byte block : ℕ) → block ≡ address / block_size
    → has_block (with_one overlay address byte) block ≡ true
has_block-here overlay address byte block e =
    has_block-at (with_one overlay address byte) block (address % block_size) (omega arith)
    (ap is_some (with_one-here overlay address byte (block * block_size + address % block_size)
    (omega (arith, e))))

pub has_block-other : (overlay : Overlay) (address byte block : ℕ) → block ≢ address / block_size
    → has_block (with_one overlay address byte) block ≡ has_block overlay block
has_block-other overlay address byte block ne =
    has_block-agree (with_one overlay address byte) overlay block
    (λ at lt. with_one-other overlay address byte (block * block_size + at) (λ e. ne (omega (arith, e, lt))))

pub has_block-nothing : (block : ℕ) → has_block nothing block ≡ false
has_block-nothing block = has_block-none nothing block (λ at lt. refl)
