-- Behind the end of storage there is nothing.
use Rattle.std.proofs.Common.{◌≡◌, ℕ, ◌+◌, ◌≤◌, true, List, Option, Some, None}
use Rattle.std.proofs.Common.{sym, ap, ◌∙◌, arith, length, get_or}
use Rattle.std.specs.Prelude.{unwrap_or}
use Rattle.std.proofs.lemmas.List.{get_or_past}
use Rattle.z_regs.specs.Prefix.{storage_size, is_prefix, absolute_of}
use Rattle.z_regs.proofs.Exchange.{area, moves}
use Rattle.store_cache.specs.Overlay.{Overlay}
use Rattle.tx_progress.specs.Progress.{seen_through}
use Rattle.tx_attempt.specs.Storages.{storage_of}

-- ---- behind the end

absolute_beyond : (prefix : Option ℕ) (a : ℕ) → is_prefix prefix ≡ true → storage_size ≤ a
    → storage_size ≤ absolute_of prefix a
absolute_beyond None a ok h = h
absolute_beyond (Some p) a ok h =
    let r = area p ok in
    let m = moves p a r.low in
    let past : p + 8192 ≤ a = omega (arith, r.high, h) in
    omega (arith, m.beyond past, h)

pub nothing_beyond : (o : Overlay) (prefix : Option ℕ) (s : List ℕ) (a : ℕ) → is_prefix prefix ≡ true
    → length s ≡ storage_size → ((x : ℕ) → storage_size ≤ x → o x ≡ None) → storage_size ≤ a
    → 0 ≡ seen_through o (storage_of s) (absolute_of prefix a)
nothing_beyond o prefix s a ok size none h =
    let b = absolute_of prefix a in
    let past = absolute_beyond prefix a ok h in
    let end : length s ≤ b = omega (arith, past, size) in
    sym (ap (λ v. unwrap_or v (get_or s b 0)) (none b past) ∙ get_or_past s b 0 end)
