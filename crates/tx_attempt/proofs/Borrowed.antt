-- The bytes of two operands are lent, an instruction is executed on them, and they come back: by what was seen, lent and
-- given back.
use Rattle.std.proofs.Common.{◌≡◌, ℕ, ◌≤◌, List, ◌++◌, Option, ap, subst, sym, ◌∙◌, arith, length, get_or, take}
use Rattle.std.specs.Prelude.{map, All}
use Rattle.std.proofs.lemmas.List.{length-take-le}
use Rattle.z_regs.specs.Absolute.{IsAccessible}
use Rattle.z_regs.specs.Cpu.{Cpu}
use Rattle.z_regs.specs.Prefix.{storage_size, absolute_of}
use Rattle.z_regs.specs.declared.ranges.Range.{Range}
use Rattle.z_regs.proofs.OneArea.{length-range_at}
use Rattle.z_instr.specs.declared.instr.Instr.{Instr}
use Rattle.z_touch.specs.Refusals.{span_of}
use Rattle.z_effect.specs.After.{AreInside, touched, range_at, written, cpu_after}
use Rattle.z_effect.specs.One.{one}
use Rattle.tx_serial.specs.Fate.{operands}
use Rattle.tx_serial.specs.Flat.{Storage, bytes_seen, operand_bytes}
use Rattle.tx_attempt.specs.declared.performing.Ended.{Ended}
use Rattle.tx_attempt.specs.Performed.{IsLeft, StoresFirst, no_range, outcome_from, trimmed, first_size}
use Rattle.tx_attempt.proofs.Lent.{mid-size, now-inside, lent-outcome, lent-image}
use Rattle.tx_attempt.proofs.Returning.{operand-end, returned, length-seen}
use Rattle.tx_attempt.proofs.Stored.{operands-first}

module _ (prefix : Option ℕ) (seen : Storage) (need : List Range) (old mid now stored zeros xs ys : List ℕ) (a b : Range)
    (accessible : All (IsAccessible prefix) need) (few : length need ≤ 2) (size : length old ≡ storage_size)
    (first : a ≡ get_or need 0 no_range) (second : b ≡ get_or need 1 no_range)
    (room : a.length ≤ length stored) (more : b.length ≤ length zeros)
    (ex : xs ≡ bytes_seen prefix seen a.first (length (take a.length stored)))
    (ey : ys ≡ bytes_seen prefix seen b.first (length (take b.length zeros)))
    (em : mid ≡ written old b.first ys) (en : now ≡ written mid a.first xs) where
  -- ---- what was seen, and where it was laid

  first-seen : xs ≡ bytes_seen prefix seen (get_or need 0 no_range).first (get_or need 0 no_range).length
  first-seen =
      ex ∙ ap (bytes_seen prefix seen a.first) (length-take-le a.length stored room)
      ∙ ap (λ (r : Range). bytes_seen prefix seen r.first r.length) first

  second-seen : ys ≡ bytes_seen prefix seen (get_or need 1 no_range).first (get_or need 1 no_range).length
  second-seen =
      ey ∙ ap (bytes_seen prefix seen b.first) (length-take-le b.length zeros more)
      ∙ ap (λ (r : Range). bytes_seen prefix seen r.first r.length) second

  first-long : length xs ≡ (get_or need 0 no_range).length
  first-long =
      ap length first-seen
      ∙ length-seen (λ p. seen (absolute_of prefix p)) (get_or need 0 no_range).first (get_or need 0 no_range).length

  second-long : length ys ≡ (get_or need 1 no_range).length
  second-long =
      ap length second-seen
      ∙ length-seen (λ p. seen (absolute_of prefix p)) (get_or need 1 no_range).first (get_or need 1 no_range).length

  second-laid : mid ≡ written old (get_or need 1 no_range).first ys
  second-laid = em ∙ ap (λ (r : Range). written old r.first ys) second

  first-laid : now ≡ written mid (get_or need 0 no_range).first xs
  first-laid = en ∙ ap (λ (r : Range). written mid r.first xs) first

  -- ---- the instruction on it

  pub borrowed-inside : AreInside (map span_of need) now
  borrowed-inside =
      now-inside prefix seen need old mid now ys xs accessible few size second-seen first-seen second-laid first-laid

  module _ (i : Instr) (c new : Cpu) (depth : ℕ) (t kept : List ℕ) (e : Ended) (is : need ≡ operands i c)
      (left : IsLeft (one i c depth (touched (map span_of need) now)) need c new now t e)
      (ek : kept ≡ range_at mid a.first (length xs)) where
    -- what stood in the place of the first operand
    first-kept : kept ≡ range_at mid (get_or need 0 no_range).first (get_or need 0 no_range).length
    first-kept = ek ∙ (λ j. range_at mid (first j).first (first-long j))

    kept-long : length kept ≡ (get_or need 0 no_range).length
    kept-long =
        let end = operand-end prefix need 0 accessible in
        let long = mid-size prefix seen need old mid now ys xs accessible few size second-seen first-seen second-laid
        first-laid in
        ap length first-kept
        ∙ length-range_at mid (get_or need 0 no_range).first (get_or need 0 no_range).length (omega (arith, end, long))

    pub borrowed-image : new ≡ cpu_after c (one i c depth (operand_bytes prefix seen need))
    borrowed-image =
        lent-image prefix seen need old mid now ys xs accessible few size second-seen first-seen second-laid first-laid
        i c new depth t e left

    -- what comes back from the first operand is what it stores
    pub borrowed-outcome : (back rest : List ℕ) → back ≡ range_at t a.first (length kept) → length t ≡ storage_size
        → outcome_from e new (take (first_size need) (back ++ rest))
        ≡ trimmed (first_size need) (one i c depth (operand_bytes prefix seen need))
    borrowed-outcome back rest eb long =
        lent-outcome prefix seen need old mid now ys xs accessible few size second-seen first-seen second-laid first-laid
        i c new depth t back rest e is left (eb ∙ (λ j. range_at t (first j).first (kept-long j))) long

    -- storage is as it was
    pub borrowed-returned : (again last other : List ℕ) → other ≡ range_at old b.first (length ys)
        → again ≡ written t a.first kept → last ≡ written again b.first other → last ≡ old
    borrowed-returned again last other eo ea el =
        let first-end = operand-end prefix need 0 accessible in
        let second-end = operand-end prefix need 1 accessible in
        returned need (one i c depth (touched (map span_of need) now)) old mid now t again last xs ys kept other
        (subst StoresFirst (sym is) (operands-first i c)) (omega (arith, first-end, size))
        (omega (arith, second-end, size)) second-long first-long second-laid
        (eo ∙ (λ j. range_at old (second j).first (second-long j))) first-laid first-kept left.view
        (ea ∙ ap (λ (r : Range). written t r.first kept) first)
        (el ∙ ap (λ (r : Range). written again r.first other) second)
