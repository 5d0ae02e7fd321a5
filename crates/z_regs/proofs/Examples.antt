-- Worked values of prefixes, ranges, save masks and program status words.
use Rattle.std.proofs.Common.{◌≡◌, ℕ, true, false, [], ◌∷◌, None, Some, refl}
use Rattle.z_regs.specs.declared.ranges.Range.{Range}
use Rattle.z_regs.specs.declared.image.RunState.TheVariants.{Halted, Interrupted}
use Rattle.z_regs.specs.Cpu.{Cpu, started}
use Rattle.z_regs.specs.Prefix.{is_prefix, absolute_of, is_accessible}
use Rattle.z_regs.specs.Pairs.{saves_pair}
use Rattle.z_regs.specs.Absolute.{absolute_range}
use Rattle.z_regs.specs.Psw.{psw_of, with_fields, loaded}

-- ---- prefixes

first_prefix : is_prefix (Some 8192) ≡ true
first_prefix = refl

last_prefix : is_prefix (Some 1040384) ≡ true
last_prefix = refl

no_first_area : is_prefix (Some 0) ≡ false
no_first_area = refl

no_area_beyond : is_prefix (Some 1048576) ≡ false
no_area_beyond = refl

no_page_in_an_area : is_prefix (Some 12288) ≡ false
no_page_in_an_area = refl

-- ---- addresses, with the prefix A000 in hexadecimal

first_byte : absolute_of (Some 0xa000) 0 ≡ 0xa000
first_byte = refl

end_of_first_area : absolute_of (Some 0xa000) 8191 ≡ 0xbfff
end_of_first_area = refl

behind_first_area : absolute_of (Some 0xa000) 8192 ≡ 8192
behind_first_area = refl

before_own_area : absolute_of (Some 0xa000) 0x9fff ≡ 0x9fff
before_own_area = refl

own_area : absolute_of (Some 0xa000) 0xa000 ≡ 0
own_area = refl

end_of_own_area : absolute_of (Some 0xa000) 0xbfff ≡ 8191
end_of_own_area = refl

behind_own_area : absolute_of (Some 0xa000) 0xc000 ≡ 0xc000
behind_own_area = refl

last_byte : absolute_of (Some 0xa000) 1048575 ≡ 1048575
last_byte = refl

without_prefix : absolute_of None 0xa000 ≡ 0xa000
without_prefix = refl

accessible_without : is_accessible None 8192 ≡ true
accessible_without = refl

closed_without : is_accessible None 8191 ≡ false
closed_without = refl

accessible_with : is_accessible (Some 0xa000) 0 ≡ true
accessible_with = refl

closed_with : is_accessible (Some 0xa000) 1048576 ≡ false
closed_with = refl

-- ---- ranges

abbrev range : ℕ → ℕ → Range
range first length = record { first = first; length = length; store = true }

-- four bytes of the first area and four behind it
across_first_edge : absolute_range (Some 0xa000) (range 0x1ffc 8) ≡ range 0xbffc 4 ∷ range 0x2000 4 ∷ []
unfolding absolute_range
across_first_edge = refl

across_own_edge : absolute_range (Some 0xa000) (range 0x9fff 2) ≡ range 0x9fff 1 ∷ range 0 1 ∷ []
unfolding absolute_range
across_own_edge = refl

behind_own_edge : absolute_range (Some 0xa000) (range 0xbf01 256) ≡ range 0x1f01 255 ∷ range 0xc000 1 ∷ []
unfolding absolute_range
behind_own_edge = refl

up_to_an_edge : absolute_range (Some 0xa000) (range 0xbf00 256) ≡ range 0x1f00 256 ∷ []
unfolding absolute_range
up_to_an_edge = refl

whole_without : absolute_range None (range 0x9fff 2) ≡ range 0x9fff 2 ∷ []
unfolding absolute_range
whole_without = refl

-- ---- save masks

first_pair : saves_pair 0x80 0 ≡ true
first_pair = refl

not_the_last_pair : saves_pair 0x80 7 ≡ false
not_the_last_pair = refl

last_pair : saves_pair 0x01 7 ≡ true
last_pair = refl

-- ---- program status words

abbrev standing : ℕ → ℕ → ℕ → Cpu
standing condition mask address = record (started address) { condition = condition; mask = mask }

after_division : psw_of (standing 0 0 0x4002) ≡ 0 ∷ 0 ∷ 0 ∷ 1 ∷ 0x80 ∷ 0 ∷ 0 ∷ 0 ∷ 0 ∷ 0 ∷ 0 ∷ 0 ∷ 0 ∷ 0 ∷
    0x40 ∷ 2 ∷ []
unfolding psw_of
after_division = refl

after_abort : psw_of (standing 3 0 0x4000) ≡ 0 ∷ 0 ∷ 0x30 ∷ 1 ∷ 0x80 ∷ 0 ∷ 0 ∷ 0 ∷ 0 ∷ 0 ∷ 0 ∷ 0 ∷ 0 ∷ 0 ∷
    0x40 ∷ 0 ∷ []
unfolding psw_of
after_abort = refl

-- the word loaded at an interruption, with condition code 1 and mask A
taken : loaded (0 ∷ 0 ∷ 0x1a ∷ 1 ∷ 0x80 ∷ 0 ∷ 0 ∷ 0 ∷ 0 ∷ 0 ∷ 0 ∷ 0 ∷ 0 ∷ 0 ∷ 0x50 ∷ 0 ∷ [])
    (record (standing 3 0 0x4002) { state = Interrupted 9 }) ≡ standing 1 10 0x5000
unfolding loaded psw_of with_fields
taken = refl

-- the wait bit halts
waits : (loaded (0 ∷ 2 ∷ 0 ∷ 1 ∷ 0x80 ∷ 0 ∷ 0 ∷ 0 ∷ 0 ∷ 0 ∷ 0 ∷ 0 ∷ 0 ∷ 0 ∷ 0x50 ∷ 0 ∷ [])
    (started 0)).state ≡ Halted
unfolding loaded psw_of with_fields
waits = refl
