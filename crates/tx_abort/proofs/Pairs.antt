-- Registers that come back in pairs.
use Rattle.std.proofs.Common.{◌≡◌, ℕ, ◌+◌, ◌/◌, ◌<◌, ◌≢◌, true, false, ◌&&◌, cond, ltb, List, length, get_or, set, refl, sym, ap, subst, ◌∙◌, arith}
use Rattle.std.proofs.lemmas.List.{get_or-set_same, get_or-set_other}
use Rattle.std.proofs.lemmas.List.FromFn.{fill_by_all, get_or-map-range_with_len}
use Rattle.std.proofs.lemmas.Bool.{cases_eq, cases_lt, lt-ltb, le-ltb, agree_below_at}
use borrow.Enum.Arm.{by_way}
use Rattle.z_regs.specs.Pairs.{saves_pair}
use Rattle.tx_abort.specs.Registers.{restored}

-- a register after the first r were seen to
abbrev pub seen_to : ℕ → List ℕ → ℕ → List ℕ → ℕ → ℕ
seen_to r saved mask general k =
    cond (ltb k r && saves_pair mask (k / 2)) (get_or saved k 0) (get_or general k 0)

-- a register other than the next is as before
same_test : (r k : ℕ) → k ≢ r → ltb k (r + 1) ≡ ltb k r
same_test r k other = by_way (cases_lt k r)
    (λ below. lt-ltb k (r + 1) (omega arith) ∙ sym (lt-ltb k r below))
    (λ above. le-ltb k (r + 1) (omega arith) ∙ sym (le-ltb k r above))

seen_to-other : (r : ℕ) (saved : List ℕ) (mask : ℕ) (general : List ℕ) (k : ℕ) → k ≢ r →
    seen_to (r + 1) saved mask general k ≡ seen_to r saved mask general k
seen_to-other r saved mask general k other =
    ap (λ b. cond (b && saves_pair mask (k / 2)) (get_or saved k 0) (get_or general k 0))
    (same_test r k other)

seen_to-next : (r : ℕ) (saved : List ℕ) (mask : ℕ) (general : List ℕ) →
    seen_to (r + 1) saved mask general r ≡
    cond (saves_pair mask (r / 2)) (get_or saved r 0) (get_or general r 0)
seen_to-next r saved mask general =
    ap (λ b. cond (b && saves_pair mask (r / 2)) (get_or saved r 0) (get_or general r 0))
    (lt-ltb r (r + 1) (omega arith))

seen_to-last : (r : ℕ) (saved : List ℕ) (mask : ℕ) (general : List ℕ) →
    seen_to r saved mask general r ≡ get_or general r 0
seen_to-last r saved mask general =
    ap (λ b. cond (b && saves_pair mask (r / 2)) (get_or saved r 0) (get_or general r 0))
    (le-ltb r r (omega arith))

-- the next register is brought back
pub brought : (r : ℕ) (saved : List ℕ) (mask : ℕ) (general now : List ℕ) → r < length now →
    saves_pair mask (r / 2) ≡ true → ((k : ℕ) → get_or now k 0 ≡ seen_to r saved mask general k) → (k : ℕ) →
    get_or (set now r (get_or saved r 0)) k 0 ≡ seen_to (r + 1) saved mask general k
brought r saved mask general now room selected so_far k = by_way (cases_eq k r)
    (λ here.
    let P : ℕ → Type 0 = λ n. get_or (set now r (get_or saved r 0)) n 0 ≡
    seen_to (r + 1) saved mask general n in
    subst P (sym here)
    (get_or-set_same now r (get_or saved r 0) 0 room
    ∙ sym (seen_to-next r saved mask general
    ∙ ap (λ b. cond b (get_or saved r 0) (get_or general r 0)) selected)))
    (λ other. get_or-set_other now r k (get_or saved r 0) 0 other ∙ so_far k
    ∙ sym (seen_to-other r saved mask general k other))

-- the next register stays
pub left : (r : ℕ) (saved : List ℕ) (mask : ℕ) (general now : List ℕ) → saves_pair mask (r / 2) ≡ false →
    ((k : ℕ) → get_or now k 0 ≡ seen_to r saved mask general k) → (k : ℕ) →
    get_or now k 0 ≡ seen_to (r + 1) saved mask general k
left r saved mask general now unselected so_far k = by_way (cases_eq k r)
    (λ here.
    let P : ℕ → Type 0 = λ n. get_or now n 0 ≡ seen_to (r + 1) saved mask general n in
    subst P (sym here)
    (so_far r ∙ seen_to-last r saved mask general
    ∙ sym (seen_to-next r saved mask general
    ∙ ap (λ b. cond b (get_or saved r 0) (get_or general r 0)) unselected)))
    (λ other. so_far k ∙ sym (seen_to-other r saved mask general k other))

-- all sixteen
pub all_brought : (r : ℕ) (saved : List ℕ) (mask : ℕ) (general now : List ℕ) → r ≡ 16 → length now ≡ 16 →
    ((k : ℕ) → get_or now k 0 ≡ seen_to r saved mask general k) → now ≡ restored saved mask general
unfolding restored
all_brought r saved mask general now e size so_far =
    fill_by_all _ now 16 0 size (λ k h. so_far k
    ∙ ap (λ b. cond (b && saves_pair mask (k / 2)) (get_or saved k 0) (get_or general k 0))
    (lt-ltb k r (omega arith)))

-- ---- laws

pub get_or-restored : (saved general : List ℕ) (mask r : ℕ) → r < 16 →
    get_or (restored saved mask general) r 0 ≡
    cond (saves_pair mask (r / 2)) (get_or saved r 0) (get_or general r 0)
unfolding restored
get_or-restored saved general mask r h =
    get_or-map-range_with_len
    (λ k. cond (saves_pair mask (k / 2)) (get_or saved k 0) (get_or general k 0)) 0 16 r r 0 h (omega arith)

pub restored-all : (saved general : List ℕ) → length saved ≡ 16 → restored saved 255 general ≡ saved
unfolding restored
restored-all saved general size =
    sym (fill_by_all _ saved 16 0 size
    (λ k h. sym (ap (λ b. cond b (get_or saved k 0) (get_or general k 0))
    (agree_below_at (λ r. saves_pair 255 (r / 2)) (λ r. true) 16 k refl h))))

pub restored-none : (saved general : List ℕ) → length general ≡ 16 → restored saved 0 general ≡ general
unfolding restored
restored-none saved general size =
    sym (fill_by_all _ general 16 0 size
    (λ k h. sym (ap (λ b. cond b (get_or saved k 0) (get_or general k 0))
    (agree_below_at (λ r. saves_pair 0 (r / 2)) (λ r. false) 16 k refl h))))
