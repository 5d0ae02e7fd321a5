-- The tokens of a line, and what is wrong with it.
use Rattle.std.specs.Prelude.{◌≡◌, ℕ, zero, suc, ◌+◌, ◌-◌, ◌<◌, ◌≤◌, Bool, true, false, not, ◌&&◌, ◌||◌, List}
use Rattle.std.specs.Prelude.{[], ◌∷◌, ◌++◌, length, drop, map, Option, Some, None, is_some, Result, Ok, Err}
use Rattle.std.specs.Prelude.{All, nat_lt, ◌==◌, if◌then◌else◌}
use Rattle.std.specs.List.{prefix_len, list_any, list_all}
use Rattle.std.specs.Char.{is_ascii_uppercase, is_ascii_digit}
use Rattle.z_text.specs.Line.{as_read, fields_of, is_letter_or_digit, is_name, is_printed}
use Rattle.z_text.specs.Line.{keeps_operands_whole, says_nothing, span}
use Rattle.z_text.specs.Numbers.{number_of}
use Rattle.z_text.specs.declared.fields.Fields.{Fields}
use Rattle.z_text.specs.declared.token.TokenKind.{TokenKind}
use Rattle.z_text.specs.declared.token.TokenKind.TheVariants.{Name, Number, Hex, Sign, Open, Close, Comma}
use Rattle.z_text.specs.declared.token.TokenKind.TheVariants.{Star}
use Rattle.z_text.specs.declared.token.Token.{Token}
use Rattle.z_text.specs.declared.token.TextFault.{TextFault}
use Rattle.z_text.specs.declared.token.TextFault.TheVariants.{Memory, LineTooLong, BadToken, BadNumber}

abbrev pub begins_quote : List ℕ → Bool
begins_quote [] = false
begins_quote (b ∷ bs) = b == 39

abbrev pub mark_of : ℕ → Option TokenKind
mark_of b =
    if b == 43 then Some Sign else (if b == 45 then Some Sign else (if b == 40 then Some Open else
    (if b == 41 then Some Close else (if b == 44 then Some Comma else (if b == 42 then Some Star
    else None)))))

-- what kind of token begins these bytes: a digit and X with a quote begin numbers, a letter a name
unfoldable pub kind_at : List ℕ → Option TokenKind
kind_at [] = None
kind_at (b ∷ bs) =
    if is_ascii_digit b then Some Number
    else (if (b == 88) && begins_quote bs then Some Hex
    else (if is_ascii_uppercase b then Some Name else mark_of b))

-- A number, right or wrong, goes on over letters, digits and quotes.
abbrev pub continues_number : ℕ → Bool
continues_number b = is_letter_or_digit b || (b == 39)

-- how many bytes it takes
abbrev pub size_for : Option TokenKind → List ℕ → ℕ
size_for (Some Number) bs = 1 + prefix_len continues_number (drop 1 bs)
size_for (Some Hex) bs = 1 + prefix_len continues_number (drop 1 bs)
size_for (Some Name) bs = 1 + prefix_len is_letter_or_digit (drop 1 bs)
size_for _ bs = 1

abbrev pub size_at : List ℕ → ℕ
size_at bs = size_for (kind_at bs) bs

-- a piece of the operands: a token, or a byte that begins none
pub record Piece : Type 0 where
  pub first : ℕ
  pub size : ℕ
  pub kind : Option TokenKind

abbrev pub piece_at : ℕ → List ℕ → Piece
piece_at at bs = record { first = at; size = size_at bs; kind = kind_at bs }

-- The pieces that bytes are cut into, each as long as it can be. The first `skip` bytes belong to the piece
-- before.
unfoldable pub pieces : ℕ → ℕ → List ℕ → List Piece
pieces skip at [] = []
pieces (suc k) at (b ∷ bs) = pieces k (at + 1) bs
pieces zero at (b ∷ bs) = piece_at at (b ∷ bs) ∷ pieces (size_at (b ∷ bs) - 1) (at + 1) bs

-- the pieces of the bytes from one place of the line to another
abbrev pub pieces_of : ℕ → ℕ → List ℕ → List Piece
pieces_of first end line = pieces 0 first (span first end line)

-- no token begins there, or a name of more than 16 bytes
abbrev pub is_bad_piece : Option TokenKind → ℕ → Bool
is_bad_piece None size = true
is_bad_piece (Some Name) size = nat_lt 16 size
is_bad_piece _ size = false

abbrev pub is_bad : Piece → Bool
is_bad p = is_bad_piece p.kind p.size

abbrev pub kind_or_star : Option TokenKind → TokenKind
kind_or_star (Some k) = k
kind_or_star None = Star

abbrev pub token_of : Piece → Token
token_of p = record { first = p.first; end = p.first + p.size; kind = kind_or_star p.kind }

-- the label, where there is one, and the operation
abbrev pub head_of : Fields → List Token
head_of f =
    let operation = record { first = f.operation; end = f.operation_end; kind = Name } ∷ [] in
    if f.label_end == 0 then operation else record { first = 0; end = f.label_end; kind = Name } ∷ operation

-- a malformed label, or an operation that is malformed or missing
unfoldable pub has_bad_head : List ℕ → Fields → Bool
has_bad_head line f = (not (f.label_end == 0) && not (is_name (span 0 f.label_end line))) ||
    not (is_name (span f.operation f.operation_end line))

-- the tokens of the operands, if there is no bad one
unfoldable pub operands_of : List ℕ → Fields → Option (List Token)
operands_of line f =
    if keeps_operands_whole (span f.operation f.operation_end line)
    then (if list_all is_printed (span f.operands f.operands_end line) then Some [] else None)
    else (if list_any is_bad (pieces_of f.operands f.operands_end line) then None
    else Some (map token_of (pieces_of f.operands f.operands_end line)))

abbrev pub behind : List Token → Option (List Token) → Option (List Token)
behind head None = None
behind head (Some ts) = Some (head ++ ts)

-- the tokens of a line, if there is no bad one
unfoldable pub split_of : List ℕ → Option (List Token)
split_of line =
    if says_nothing line then Some []
    else (if has_bad_head line (fields_of line) then None
    else behind (head_of (fields_of line)) (operands_of line (fields_of line)))

abbrev pub is_numeric : TokenKind → Bool
is_numeric Number = true
is_numeric Hex = true
is_numeric _ = false

-- The token is a number where it has to be one.
unfoldable pub is_good_number : List ℕ → Token → Bool
is_good_number text t = not (is_numeric t.kind) || is_some (number_of t.kind (span t.first t.end text))

abbrev pub with_numbers : List ℕ → Option (List Token) → Result (List Token) TextFault
with_numbers text None = Err BadToken
with_numbers text (Some ts) = if list_all (is_good_number text) ts then Ok ts else Err BadNumber

-- The tokens of a line, or its first fault: its length, then a bad token anywhere, then a bad number
-- anywhere.
unfoldable pub tokens_of : List ℕ → Result (List Token) TextFault
tokens_of text = if nat_lt 120 (length text) then Err LineTooLong
    else with_numbers text (split_of (as_read text))

-- What is returned is the given answer, unless memory ran out.
abbrev pub Gives : {X Y : Type 0} → (X → Y) → Result X TextFault → Result Y TextFault → Type 0
Gives view (Ok x) given = given ≡ Ok (view x)
Gives view (Err Memory) given = Unit {0}
Gives view (Err e) given = given ≡ Err e

abbrev pub IsShort : TokenKind → ℕ → Type 0
IsShort Name size = size ≤ 16
IsShort _ size = Unit {0}

-- The token lies in a text of so many bytes, is not empty, and as a name has at most 16 bytes.
abbrev pub LiesIn : ℕ → Token → Type 0
LiesIn n t = (t.first < t.end) × (t.end ≤ n) × IsShort t.kind (t.end - t.first)

-- The tokens lie in the text, its numbers are numbers, and there are at most 120.
pub record AreTokensIn (text : List ℕ) (ts : List Token) : Type 0 where
  pub inside : All (LiesIn (length text)) ts
  pub numbers : list_all (is_good_number text) ts ≡ true
  pub few : length ts ≤ 120

-- The tokens lie end to end from one place to another.
abbrev pub FillFrom : ℕ → List Token → ℕ → Type 0
FillFrom at [] end = at ≡ end
FillFrom at (t ∷ ts) end = (t.first ≡ at) × FillFrom t.end ts end

-- Behind the label and the operation, tokens lie end to end over the operands, where they are split.
abbrev pub FillOperands : List ℕ → List Token → Type 0
FillOperands line ts =
    says_nothing line ≡ false →
    keeps_operands_whole (span (fields_of line).operation (fields_of line).operation_end line) ≡ false →
    (operands : List Token) × (ts ≡ head_of (fields_of line) ++ operands) × FillFrom
    (fields_of line).operands operands (fields_of line).operands_end
