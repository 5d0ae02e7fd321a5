-- What DC places.
use Rattle.std.specs.Prelude.{ℕ, ◌+◌, ◌-◌, ◌*◌, ◌/◌, ◌%◌, ◌^◌, Bool, true, false, ◌&&◌, List, [], ◌∷◌, ◌++◌}
use Rattle.std.specs.Prelude.{length, Option, Some, None, Result, Ok, Err, nat_lt, nat_le, ◌==◌}
use Rattle.std.specs.Prelude.{if◌then◌else◌}
use Rattle.std.specs.List.{list_all}
use Rattle.std.specs.Char.{is_digit, digit_value}
use Rattle.z_text.specs.Numbers.{number_in}
use Rattle.z_fields.specs.Pieces.{ends_with, shortened}
use Rattle.z_fields.specs.declared.data.Width.{Width}
use Rattle.z_fields.specs.declared.data.Width.TheVariants.{Two, Four, Eight}
use Rattle.z_fields.specs.declared.fault.Kind.{Kind}
use Rattle.z_fields.specs.declared.fault.Kind.TheVariants.{BadDirective, OutOfRange}

-- ---- numbers

-- the last bytes of a number, the highest first
abbrev pub big_endian : Width → ℕ → List ℕ
big_endian Two n = n / 2 ^ 8 % 256 ∷ n % 256 ∷ []
big_endian Four n = n / 2 ^ 24 % 256 ∷ n / 2 ^ 16 % 256 ∷ n / 2 ^ 8 % 256 ∷ n % 256 ∷ []
big_endian Eight n =
    n / 2 ^ 56 % 256 ∷ n / 2 ^ 48 % 256 ∷ n / 2 ^ 40 % 256 ∷ n / 2 ^ 32 % 256 ∷ n / 2 ^ 24 % 256 ∷ n / 2 ^ 16
    % 256
    ∷ n / 2 ^ 8 % 256 ∷ n % 256 ∷ []

-- how many numbers so many bytes tell apart
abbrev pub power_of : Width → ℕ
power_of Two = 2 ^ 16
power_of Four = 2 ^ 32
power_of Eight = 2 ^ 64

-- A number with a minus fits where it has a place among those with a sign, one without a minus among those
-- without one.
abbrev pub fits : Bool → Width → ℕ → Bool
fits true width n = nat_le n (power_of width / 2)
fits false width n = nat_lt n (power_of width)

abbrev pub complement : Bool → Width → ℕ → ℕ
complement true width n = power_of width - n
complement false width n = n

abbrev pub number_bytes : Bool → Width → Option ℕ → Result (List ℕ) Kind
number_bytes negative width None = Err OutOfRange
number_bytes negative width (Some n) = if fits negative width n then Ok
    (big_endian width (complement negative width n)) else Err OutOfRange

abbrev pub is_decimal : ℕ → Bool
is_decimal b = is_digit b 10

abbrev pub are_decimal : List ℕ → Bool
are_decimal [] = false
are_decimal (b ∷ bs) = list_all is_decimal (b ∷ bs)

-- Decimal digits, at least one. A number that does not fit 64 bits fits no width.
unfoldable pub digits_bytes : Bool → Width → List ℕ → Result (List ℕ) Kind
digits_bytes negative width text = if are_decimal text then number_bytes negative width
    (number_in 10 text) else Err BadDirective

abbrev pub signed_by : Width → ℕ → List ℕ → Result (List ℕ) Kind
signed_by width b bs =
    if b == 43 then digits_bytes false width bs else
    (if b == 45 then digits_bytes true width bs else digits_bytes false width (b ∷ bs))

abbrev pub signed_bytes : Width → List ℕ → Result (List ℕ) Kind
signed_bytes width [] = Err BadDirective
signed_bytes width (b ∷ bs) = signed_by width b bs

-- a number with or without a sign, with a quote behind it
unfoldable pub quoted_number : Width → List ℕ → Result (List ℕ) Kind
quoted_number width text = if ends_with 39 text then signed_bytes width (shortened text) else Err BadDirective

-- ---- bytes

abbrev pub hex_digit : ℕ → Option ℕ
hex_digit b = if is_digit b 16 then Some (digit_value b) else None

abbrev pub pair : Option ℕ → Option ℕ → Option ℕ
pair (Some m) (Some n) = Some (m * 16 + n)
pair _ _ = None

abbrev pub byte_of : ℕ → ℕ → Option ℕ
byte_of a b = pair (hex_digit a) (hex_digit b)

abbrev pub prepend : List ℕ → Option (List ℕ) → Option (List ℕ)
prepend front None = None
prepend front (Some bs) = Some (front ++ bs)

abbrev pub with_byte : Option ℕ → Option (List ℕ) → Option (List ℕ)
with_byte None bs = None
with_byte (Some n) bs = prepend (n ∷ []) bs

abbrev pub is_quote : List ℕ → Bool
is_quote (b ∷ []) = b == 39
is_quote _ = false

-- pairs of hex digits, with a quote behind them
unfoldable pub pairs_of : List ℕ → Option (List ℕ)
pairs_of [] = None
pairs_of (a ∷ []) = if a == 39 then Some [] else None
pairs_of (a ∷ b ∷ rest) = with_byte (byte_of a b) (pairs_of rest)

abbrev pub or_bad : Option (List ℕ) → Result (List ℕ) Kind
or_bad None = Err BadDirective
or_bad (Some bytes) = Ok bytes

-- the same, with at least one pair
unfoldable pub quoted_hex : List ℕ → Result (List ℕ) Kind
quoted_hex text = if nat_lt 2 (length text) then or_bad (pairs_of text) else Err BadDirective

-- ---- the operand

abbrev pub double_by : ℕ → ℕ → List ℕ → Result (List ℕ) Kind
double_by a b rest = if (a == 68) && (b == 39) then quoted_number Eight rest else Err BadDirective

-- eight bytes, behind a D and a quote
unfoldable pub double_data : List ℕ → Result (List ℕ) Kind
double_data (a ∷ b ∷ rest) = double_by a b rest
double_data _ = Err BadDirective

abbrev pub data_by : ℕ → ℕ → List ℕ → Result (List ℕ) Kind
data_by a b rest =
    if (a == 72) && (b == 39) then quoted_number Two rest
    else (if (a == 70) && (b == 39) then quoted_number Four rest
    else (if (a == 88) && (b == 39) then quoted_hex rest
    else (if a == 70 then double_data (b ∷ rest) else Err BadDirective)))

-- H, F or FD and a number in quotes, of 2, 4 or 8 bytes, or X and hex digits in quotes
unfoldable pub data_of : List ℕ → Result (List ℕ) Kind
data_of (a ∷ b ∷ rest) = data_by a b rest
data_of _ = Err BadDirective
