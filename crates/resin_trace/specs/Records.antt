-- Records of a trace, as a relation from texts to what they say.
use Rattle.std.specs.Prelude.{◌≡◌, ℕ, ◌+◌, ◌*◌, ◌-◌, ◌≤◌, List, [], ◌∷◌, ◌++◌, length, take, All, codes}
use Rattle.resin_trace.specs.declared.event.TraceEvent.{TraceEvent}
use Rattle.resin_trace.specs.declared.event.TraceEvent.TheVariants.{Piece, End}

-- how many bytes of a trace are read
abbrev pub limit : ℕ
limit = 67108864

abbrev pub IsDigit : ℕ → Type 0
IsDigit b = (48 ≤ b) × (b ≤ 57)

-- the number that digits say, after those before them
abbrev pub value : ℕ → List ℕ → ℕ
value n [] = n
value n (b ∷ bs) = value (10 * n + (b - 48)) bs

-- no zero leads
abbrev pub IsCanonical : List ℕ → Type 0
IsCanonical [] = ⊥
IsCanonical (b ∷ bs) = b ≡ 48 → bs ≡ []

-- the text is the number in decimal
pub record Numeral (text : List ℕ) (n : ℕ) : Type 0 where
  pub digits : All IsDigit text
  pub canonical : IsCanonical text
  pub says : value 0 text ≡ n

-- bytes that came on a connection: `CONN SIZE` and the bytes, each with an end of line behind it
pub record PieceText (text : List ℕ) (conn : ℕ) (bytes : List ℕ) : Type 0 where
  pub head : List ℕ
  pub size : List ℕ
  pub conn_is : Numeral head conn
  pub low : 1 ≤ conn
  pub high : conn ≤ 1000
  pub size_is : Numeral size (length bytes)
  pub small : length bytes ≤ 1048576
  pub is : text ≡ head ++ (codes " " ++ (size ++ (codes "\n" ++ (bytes ++ codes "\n"))))

-- the end of a connection: `CONN end`
pub record EndText (text : List ℕ) (conn : ℕ) : Type 0 where
  pub head : List ℕ
  pub conn_is : Numeral head conn
  pub low : 1 ≤ conn
  pub high : conn ≤ 1000
  pub is : text ≡ head ++ codes " end\n"

-- the text is a record that says this
abbrev pub Spells : List ℕ → TraceEvent → Type 0
Spells text (Piece conn bytes) = PieceText text conn bytes
Spells text (End conn) = EndText text conn

-- a record stands at the front
pub record Front (text : List ℕ) : Type 0 where
  pub event : TraceEvent
  pub word : List ℕ
  pub rest : List ℕ
  pub spells : Spells word event
  pub is : text ≡ word ++ rest

abbrev pub NoRecord : List ℕ → Type 0
NoRecord text = Front text → ⊥

-- some text that begins with this one has a record at its front
abbrev pub CanGo : List ℕ → Type 0
CanGo text = (more : List ℕ) × Front (text ++ more)

-- records, each with the offset after it, from a place on, and then the rest
abbrev pub Splits : ℕ → List ℕ → List (TraceEvent × ℕ) → List ℕ → Type 0
Splits place text [] rest = text ≡ rest
Splits place text (e ∷ es) rest =
    (word : List ℕ) × (more : List ℕ) × Spells word e.0 × (text ≡ word ++ more) × (e.1 ≡ place + length word) × Splits e.1 more es rest

-- the longest run of whole records within the limit
pub record Records (text : List ℕ) (events : List (TraceEvent × ℕ)) (rest : List ℕ) : Type 0 where
  pub splits : Splits 0 (take limit text) events rest
  pub longest : NoRecord rest

-- there is such a run
pub record HasRecords (text : List ℕ) : Type 0 where
  pub events : List (TraceEvent × ℕ)
  pub rest : List ℕ
  pub records : Records text events rest

-- and no other
pub record OnlyRecords (text : List ℕ) (events : List (TraceEvent × ℕ)) (rest : List ℕ) : Type 0 where
  pub events_are : (others : List (TraceEvent × ℕ)) (left : List ℕ) → Records text others left → others ≡ events
  pub rest_is : (others : List (TraceEvent × ℕ)) (left : List ℕ) → Records text others left → left ≡ rest
