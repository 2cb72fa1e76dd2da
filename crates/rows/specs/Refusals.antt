-- The refusals and their numbers: the questions of documents 01 and 02, as src/refusal.rt has them.
use Rattle.std.specs.Prelude.{ℕ, ◌≡◌, Result, MatchResult}
use Rattle.rows.specs.declared.refusal.Refusal.{Refusal}
use Rattle.rows.specs.declared.refusal.Refusal.TheVariants.{ShortSlice, Limits, HeaderWord, Malformed, Header, RowLimit, SixFields, KnownKind, UsedFields, Range, RangeEnd, MessageOrder, State, RowNumber, OfFile, MapSpace, AnswerSpace, TextSpace, SharedProcess, Stuck, WaitOrder, BarrierOrder, ListSpace}
use Rattle.rows.specs.declared.refusal.Refused.{Refused}

-- Are the lent slices long enough?
abbrev pub SHORT_SLICE : ℕ
SHORT_SLICE = 1

-- Are model, row limit and process limit within their ranges?
abbrev pub LIMITS : ℕ
LIMITS = 2

-- Is the header word 0 or 1?
abbrev pub HEADER_WORD : ℕ
HEADER_WORD = 3

-- Is the record well formed?
abbrev pub MALFORMED : ℕ
MALFORMED = 4

-- Has the header the six names in order?
abbrev pub HEADER : ℕ
HEADER = 5

-- Is the row's number within the row limit?
abbrev pub ROW_LIMIT : ℕ
ROW_LIMIT = 6

-- Are there six fields?
abbrev pub SIX_FIELDS : ℕ
SIX_FIELDS = 7

-- Is the kind known?
abbrev pub KNOWN_KIND : ℕ
KNOWN_KIND = 8

-- Are the used fields filled and the unused empty?
abbrev pub USED_FIELDS : ℕ
USED_FIELDS = 9

-- Is each number plain and within its range?
abbrev pub RANGE : ℕ
RANGE = 10

-- Is offset + length at most 4,294,967,295?
abbrev pub RANGE_END : ℕ
RANGE_END = 11

-- Is the message in order?
abbrev pub MESSAGE_ORDER : ℕ
MESSAGE_ORDER = 12

-- Is the state lawful?
abbrev pub STATE : ℕ
STATE = 13

-- Is the row number 1 to 4,096?
abbrev pub ROW_NUMBER : ℕ
ROW_NUMBER = 14

-- Is the row one of this file?
abbrev pub OF_FILE : ℕ
OF_FILE = 15

-- Does every map after the row fit its space?
abbrev pub MAP_SPACE : ℕ
MAP_SPACE = 16

-- Does a read's list fit the lent answer slice?
abbrev pub ANSWER_SPACE : ℕ
ANSWER_SPACE = 17

-- Does the text fit the lent slice behind the place?
abbrev pub TEXT_SPACE : ℕ
TEXT_SPACE = 18

-- Has each process rows in one of two joined files alone?
abbrev pub SHARED_PROCESS : ℕ
SHARED_PROCESS = 19

-- Can the next row of one of two joined files be taken?
abbrev pub STUCK : ℕ
STUCK = 20

-- Is the wait in order?
abbrev pub WAIT_ORDER : ℕ
WAIT_ORDER = 21

-- Is each barrier in order, and finished?
abbrev pub BARRIER_ORDER : ℕ
BARRIER_ORDER = 22

-- Does every race fit the lent list?
abbrev pub LIST_SPACE : ℕ
LIST_SPACE = 23

-- ---- Refusals as answers of code

-- The number of the question that was answered No.
abbrev pub number_of : Refusal → ℕ
number_of ShortSlice = SHORT_SLICE
number_of Limits = LIMITS
number_of HeaderWord = HEADER_WORD
number_of Malformed = MALFORMED
number_of Header = HEADER
number_of RowLimit = ROW_LIMIT
number_of SixFields = SIX_FIELDS
number_of KnownKind = KNOWN_KIND
number_of UsedFields = USED_FIELDS
number_of Range = RANGE
number_of RangeEnd = RANGE_END
number_of MessageOrder = MESSAGE_ORDER
number_of State = STATE
number_of RowNumber = ROW_NUMBER
number_of OfFile = OF_FILE
number_of MapSpace = MAP_SPACE
number_of AnswerSpace = ANSWER_SPACE
number_of TextSpace = TEXT_SPACE
number_of SharedProcess = SHARED_PROCESS
number_of Stuck = STUCK
number_of WaitOrder = WAIT_ORDER
number_of BarrierOrder = BARRIER_ORDER
number_of ListSpace = LIST_SPACE

-- A refusal at a place.
abbrev pub refused_at : Refusal → ℕ → Refused
refused_at refusal place = record { refusal = refusal; place = place }

-- What some questions answer whose first No has this number, 0 where every answer is Yes: that question's refusal, and a value where there is no No.
abbrev pub Asks : {T : Type 0} → ℕ → Result T Refusal → Type 0
Asks first answer = MatchResult answer (λ _. first ≡ 0) (λ refusal. number_of refusal ≡ first)
