-- What a run leaves differs from storage in the lines alone that it has stored into.
use Rattle.std.proofs.Common.{◌≡◌, ◌≢◌, ◌∙◌, ap, sym, refl, subst, ℕ, ◌/◌, ◌≤◌, Bool, true, false, List, [], ◌∷◌}
use Rattle.std.proofs.Common.{length, get_or, Option, eqb}
use Rattle.std.specs.Prelude.{◌==◌, if◌then◌else◌}
use Rattle.std.specs.List.{All}
use Rattle.std.proofs.lemmas.Bool.{or_parts, eq-eqb, eqb-true}
use Rattle.z_regs.specs.Cpu.{Cpu, cpu_of}
use Rattle.z_regs.specs.Prefix.{storage_size, is_prefix, absolute_of}
use Rattle.z_regs.proofs.Exchange.{absolute_within, seen_at}
use Rattle.z_regs.specs.Seen.{seen_by}
use Rattle.z_regs.specs.Absolute.{absolute_ranges}
use Rattle.z_regs.specs.declared.ranges.Range.{Range}
use Rattle.z_instr.specs.declared.instr.Instr.{Instr}
use Rattle.z_effect.specs.After.{AreInside, ranges_of, storage_after, with_stored}
use Rattle.z_effect.specs.Outcome.{Outcome, Did, Divides, Aborts}
use Rattle.z_effect.specs.Outcome as outcome
use Rattle.store_cache.specs.Overlay.{Store}
use Rattle.tx_footprint.specs.Places.{has_place, stores, IsInStorage}
use Rattle.tx_footprint.specs.Sizes.{line_size}
use Rattle.tx_footprint.specs.Touched.{sets_of}
use Rattle.tx_serial.specs.Attempt.{Run, at_rest, footprint}
use Rattle.tx_serial.specs.Attempt as run
use Rattle.tx_serial.specs.Fate.{Passes, operands}
use Rattle.tx_serial.specs.Flat.{Storage, FlatState, at_put, bytes_of, laid_over, operand_stores}
use Rattle.tx_serial.specs.Run.{run as runs, outcome_of}
use Rattle.tx_serial.specs.Stored.{has_store_in}
use Rattle.tx_serial.proofs.Copies.{run_copy, run_lasting, run_prefix}
use Rattle.tx_serial.proofs.Listed.{bytes_below_at}
use Rattle.tx_serial.proofs.StoredBytes.{stored_size, Fills}
use Rattle.tx_serial.proofs.StoredPlaces.{stored_places, operands_there, small_operands, filled}
use Rattle.tx_private.specs.Bytes.{function_of}
use Rattle.tx_private.specs.Done.{IsExecuted, outcome_at}
use Rattle.tx_private.specs.declared.attempt.Attempt.{Attempt}
use Rattle.tx_private.specs.declared.execution.Completion.{Completion}
use Rattle.tx_flat.specs.Near.{Near}
use Rattle.tx_private.specs.Shows.{Shows, IsRunOf, mark_of}
use Rattle.tx_private.proofs.Fetched.{copy_size}
use Rattle.tx_private.proofs.Inside.{inside, in_storage}
use Rattle.tx_private.proofs.Laid.{length-bytes}
use Rattle.tx_private.proofs.Moving.{none_refuses}
use Rattle.tx_private.proofs.Resting.{some_state}
use Rattle.tx_private.proofs.Settled.{same_outcome, stored_copy}
use Rattle.tx_serial.proofs.TextStays.{contraposed}

-- ---- stores to other lines

put_elsewhere : (s : Storage) (x : Store) (a : ℕ) (b : Bool) → eqb a x.address ≡ b
    → (x.address / line_size == a / line_size) ≡ false → (if b then x.byte else s a) ≡ s a
put_elsewhere s x a true e off =
    let same : a ≡ x.address = eqb-true a x.address e in
    let here : (x.address / line_size == a / line_size) ≡ true =
    eq-eqb (x.address / line_size) (a / line_size) (ap (λ y. y / line_size) (sym same)) in
    absurd (let y : false ≡ true = sym off ∙ here in cc)
put_elsewhere s x a false e off = refl

laid_elsewhere : (xs : List Store) (s : Storage) (a : ℕ) → has_store_in line_size xs (a / line_size) ≡ false
    → laid_over s xs a ≡ s a
unfolding laid_over
laid_elsewhere [] s a off = refl
laid_elsewhere (x ∷ rest) s a off =
    let parts = or_parts (x.address / line_size == a / line_size) (has_store_in line_size rest (a / line_size)) off in
    laid_elsewhere rest (at_put s x.address x.byte) a parts.1
    ∙ put_elsewhere s x a (eqb a x.address) refl parts.0

-- a copy that is storage with stores laid over it, as a CPU sees it
near_by : (prefix : Option ℕ) (test : ℕ → Bool) (bytes seen : List ℕ) (xs : List Store) → is_prefix prefix ≡ true
    → seen ≡ seen_by prefix (bytes_of (laid_over (function_of bytes) xs))
    → ((line : ℕ) → test line ≡ false → has_store_in line_size xs line ≡ false) → Near prefix test bytes seen
near_by prefix test bytes seen xs ok is apart = λ k within off.
    let s = laid_over (function_of bytes) xs in
    let a = absolute_of prefix k in
    ap (λ l. get_or l k 0) is
    ∙ seen_at prefix (bytes_of s) k ok (length-bytes s) within
    ∙ bytes_below_at storage_size s a (absolute_within prefix k ok within)
    ∙ laid_elsewhere xs (function_of bytes) a (apart (a / line_size) off)

-- ---- runs

module _ (bytes text : List ℕ) (c : Cpu) (n : ℕ) (a : Attempt) (is : IsRunOf bytes text c n a)
    (there : mark_of a.mark ≢ run.Missing) (ok : is_prefix c.prefix ≡ true) (turned : a.turned ≡ c.prefix)
  where
    abbrev its : FlatState
    its = some_state bytes text c

    abbrev p : Run
    p = runs its 0 n

    shows : Shows (function_of bytes) a p
    shows = let r = is its 0 refl refl refl in r.shows (λ gone. there (r.mark ∙ gone))

    same : p.cpu.prefix ≡ a.turned
    same = run_prefix its 0 n ∙ sym turned

    unstored : (line : ℕ) → (sets_of a.footprint).stored line ≡ false → has_store_in line_size p.stores line ≡ false
    unstored line off =
        sym (stored_places line_size its 0 n line ok) ∙ ap (λ s. s.stored line) (sym shows.sets) ∙ off

    pub turned_in : is_prefix a.turned ≡ true
    turned_in = ap is_prefix turned ∙ ok

    pub near_seen : Near a.turned (sets_of a.footprint).stored bytes a.seen
    near_seen =
        near_by a.turned (sets_of a.footprint).stored bytes a.seen p.stores turned_in
        (shows.copy ∙ ap (λ x. seen_by x (bytes_of p.copy)) same
        ∙ ap (λ (s : Storage). seen_by a.turned (bytes_of s)) (run_copy its 0 n)) unstored

    pub near_lasting : Near a.turned (sets_of a.footprint).stored bytes a.lasting
    near_lasting =
        near_by a.turned (sets_of a.footprint).stored bytes a.lasting p.lasting turned_in
        (shows.lasting ∙ ap (λ x. seen_by x (bytes_of (laid_over (function_of bytes) p.lasting))) same)
        (λ line off. contraposed (has_store_in line_size p.lasting line) (has_store_in line_size p.stores line)
        (run_lasting (λ s. s.address / line_size == line) its 0 n) (unstored line off))

-- ---- one instruction outside transactions

-- its operands lie in storage
pub step_inside : (text s : List ℕ) (c : Cpu) (i : Instr) (touches absolute : List Range) → is_prefix c.prefix ≡ true
    → Passes text (at_rest (function_of s) c) i touches → absolute ≡ absolute_ranges c.prefix touches
    → All IsInStorage absolute
step_inside text s c i touches absolute ok passes places =
    let p = at_rest (function_of s) c in
    subst (All IsInStorage) (sym (places ∙ ap (absolute_ranges c.prefix) passes.touches))
    (in_storage text p i ok (none_refuses text p i passes.passed).on_operands)

pub step_lasting : (test : ℕ → Bool) (s : List ℕ) (c : Cpu) (a : Attempt) → is_prefix c.prefix ≡ true
    → a.turned ≡ c.prefix → Shows (function_of s) a (at_rest (function_of s) c) → Near a.turned test s a.lasting
unfolding laid_over
step_lasting test s c a ok turned shows =
    near_by a.turned test s a.lasting [] (ap is_prefix turned ∙ ok)
    (shows.lasting ∙ ap (λ p. seen_by p (bytes_of (function_of s))) (sym turned)) (λ line off. refl)

module _ (text s seen_after : List ℕ) (c after : Cpu) (a : Attempt) (i : Instr)
    (touches absolute : List Range) (done : Completion) (fine : is_prefix c.prefix ≡ true)
    (turned : a.turned ≡ c.prefix)
    (shows : Shows (function_of s) a (at_rest (function_of s) c))
    (passes : Passes text (at_rest (function_of s) c) i touches)
    (places : absolute ≡ absolute_ranges c.prefix touches)
    (executed : IsExecuted 0 i (cpu_of a.image) after a.seen seen_after done) where
  abbrev resting : Run
  resting = at_rest (function_of s) c

  turned_too : is_prefix a.turned ≡ true
  turned_too = ap is_prefix turned ∙ fine

  within_it : AreInside (ranges_of i c) a.seen
  within_it =
      inside text resting i a.seen (copy_size a.seen resting fine shows.copy)
      (none_refuses text resting i passes.passed).on_operands

  doing : outcome_at 0 i (cpu_of a.image) a.seen ≡ outcome_of i (operands i c) resting
  doing = ap (λ (d : Cpu). outcome_at 0 i d a.seen) (sym shows.cpu) ∙ same_outcome i resting a.seen fine shows.copy within_it

  ranges_there : (line : ℕ) → stores absolute line ≡ false → stores (absolute_ranges c.prefix (operands i c)) line ≡ false
  ranges_there line off =
      let all : absolute ≡ absolute_ranges c.prefix (operands i c) = places ∙ ap (absolute_ranges c.prefix) passes.touches in
      ap (λ rs. stores rs line) (sym all) ∙ off

  unstored_by : (bytes : List ℕ) → stored_size (operands i c) ≤ length bytes → (line : ℕ)
      → stores absolute line ≡ false
      → has_store_in line_size (operand_stores c.prefix (operands i c) bytes) line ≡ false
  unfolding has_place
  unstored_by bytes enough line off =
      operands_there (λ x. x / line_size == line) c.prefix (operands i c) fine (small_operands i c) bytes enough
      ∙ ranges_there line off

  stored_so : (bytes : List ℕ) → stored_size (operands i c) ≤ length bytes
      → seen_after ≡ with_stored (ranges_of i (cpu_of a.image)) bytes a.seen
      → Near a.turned (stores absolute) s seen_after
  stored_so bytes enough is =
      let x = laid_over (function_of s) (operand_stores c.prefix (operands i c) bytes) in
      near_by a.turned (stores absolute) s seen_after (operand_stores c.prefix (operands i c) bytes) turned_too
      (is
      ∙ ap (λ (d : Cpu). with_stored (ranges_of i d) bytes a.seen) (sym shows.cpu)
      ∙ stored_copy i resting (function_of s) a.seen bytes fine shows.copy within_it
      ∙ ap (λ p. seen_by p (bytes_of x)) (sym turned))
      (unstored_by bytes enough)

  unstored_so : seen_after ≡ a.seen → Near a.turned (stores absolute) s seen_after
  unfolding laid_over
  unstored_so is =
      near_by a.turned (stores absolute) s seen_after [] turned_too
      (is ∙ shows.copy ∙ ap (λ p. seen_by p (bytes_of (function_of s))) (sym turned)) (λ line off. refl)

  by_outcome : (o : Outcome) → outcome_at 0 i (cpu_of a.image) a.seen ≡ o → Near a.turned (stores absolute) s seen_after
  by_outcome (Did d bytes) e =
      stored_so bytes (subst (Fills (stored_size (operands i c))) (sym doing ∙ e) (filled i resting))
      (executed.storage ∙ ap (storage_after (ranges_of i (cpu_of a.image)) a.seen) e)
  by_outcome (outcome.Overflowed d bytes) e =
      stored_so bytes (subst (Fills (stored_size (operands i c))) (sym doing ∙ e) (filled i resting))
      (executed.storage ∙ ap (storage_after (ranges_of i (cpu_of a.image)) a.seen) e)
  by_outcome Divides e =
      unstored_so (executed.storage ∙ ap (storage_after (ranges_of i (cpu_of a.image)) a.seen) e)
  by_outcome (Aborts code) e =
      unstored_so (executed.storage ∙ ap (storage_after (ranges_of i (cpu_of a.image)) a.seen) e)

  pub near_step : Near a.turned (stores absolute) s seen_after
  near_step = by_outcome (outcome_at 0 i (cpu_of a.image) a.seen) refl
