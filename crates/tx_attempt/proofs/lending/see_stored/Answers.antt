-- A run of stored bytes is what the attempt sees there.
use Rattle.std.proofs.Common.{◌≡◌, ℕ, ◌+◌, List, length, get_or, ap, sym, ◌∙◌, arith}
use Rattle.std.specs.Prelude.{Option, unwrap_or}
use Rattle.std.proofs.lemmas.List.{take_all}
use Rattle.z_regs.specs.Prefix.{absolute_of}
use Rattle.store_cache.specs.Entries.{stores_of}
use Rattle.tx_serial.specs.Flat.{Storage}
use Rattle.tx_progress.specs.Progress.{seen_through}
use Rattle.tx_attempt.specs.Storages.{storage_of}
use Rattle.tx_attempt.proofs.Fetching.{taken-moved}
use Rattle.tx_attempt.proofs.lending.see_stored.Goals as goal

pub returns-in-Some : goal.returns-in-Some
returns-in-Some g c =
    let run : List ℕ = c.in-Some.stored.now in
    let seen : Storage = seen_through (stores_of c.args.attempt.now.stores).overlay
    (storage_of (g.V.Bytes.bytes c.args.base.now)) in
    c.copy_from_slice.ensures.after
    ∙ sym (take_all (length c.args.bytes.now) run (omega (arith, c.in-Some.ensures.size)))
    ∙ taken-moved (length c.args.bytes.now) 0 c.args.first run (λ a. seen (absolute_of c.args.prefix a))
    (λ k lt. let here : 0 + k ≡ k = omega arith in
    ap (λ n. get_or run n 0) here
    ∙ sym (ap (λ (p : Option ℕ). seen (absolute_of p (c.args.first + k))) c.requires.none
    ∙ ap (λ (o : Option ℕ). unwrap_or o (get_or (g.V.Bytes.bytes c.args.base.now) (c.args.first + k) 0))
    (c.in-Some.ensures.bytes k lt)))
    (omega (arith, c.in-Some.ensures.size))
