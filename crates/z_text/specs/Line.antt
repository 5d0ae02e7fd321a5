-- The parts of a line of the listing. A line is a list of bytes without its line end.
use Rattle.std.specs.Prelude.{ℕ, ◌+◌, ◌-◌, Bool, true, false, not, ◌&&◌, ◌||◌, List, [], ◌∷◌, length, take}
use Rattle.std.specs.Prelude.{drop, map, nat_le, ◌==◌}
use Rattle.std.specs.List.{prefix_len, list_all}
use Rattle.std.specs.Char.{is_ascii_uppercase, is_ascii_digit, to_ascii_uppercase}
use Rattle.z_text.specs.declared.fields.Fields.{Fields}

-- the line as it is read: small letters count as capitals
abbrev pub as_read : List ℕ → List ℕ
as_read text = map to_ascii_uppercase text

abbrev pub is_blank : ℕ → Bool
is_blank b = b == 32

abbrev pub is_inked : ℕ → Bool
is_inked b = not (b == 32)

abbrev pub is_printed : ℕ → Bool
is_printed b = nat_le 32 b && nat_le b 126

abbrev pub is_letter_or_digit : ℕ → Bool
is_letter_or_digit b = is_ascii_uppercase b || is_ascii_digit b

-- the bytes from one place to another
abbrev pub span : ℕ → ℕ → List ℕ → List ℕ
span first end text = take (end - first) (drop first text)

-- the first place from `at` on whose byte does not pass
abbrev pub past : (ℕ → Bool) → ℕ → List ℕ → ℕ
past p at text = at + prefix_len p (drop at text)

-- The label is what is inked from column 1 on. Behind it and blanks stands the operation, behind that and
-- blanks the operands. What follows them is the remark.
unfoldable pub fields_of : List ℕ → Fields
fields_of line =
    let label_end = past is_inked 0 line in
    let operation = past is_blank label_end line in
    let operation_end = past is_inked operation line in
    let operands = past is_blank operation_end line in
    record {
      label_end = label_end;
      operation = operation;
      operation_end =
          operation_end;
      operands = operands;
      operands_end = past is_inked operands line;
    }

-- the line is empty, all blanks, or begins with an asterisk
abbrev pub says_nothing : List ℕ → Bool
says_nothing [] = true
says_nothing (b ∷ bs) = (b == 42) || list_all is_blank (b ∷ bs)

-- a letter and up to 15 letters or digits
abbrev pub is_name : List ℕ → Bool
is_name [] = false
is_name (b ∷ bs) = is_ascii_uppercase b && (nat_le (length bs) 15 && list_all is_letter_or_digit bs)

-- DC and SCHED, whose operands are not split
abbrev pub keeps_operands_whole : List ℕ → Bool
keeps_operands_whole (a ∷ b ∷ []) = (a == 68) && (b == 67)
keeps_operands_whole (a ∷ b ∷ c ∷ d ∷ e ∷ []) =
    (a == 83) && ((b == 67) && ((c == 72) && ((d == 69) && (e == 68))))
keeps_operands_whole _ = false
