-- The sizes of a book, the ranges of its numbers, and the kinds of evidence, by name. The most kW stands with the ranges.
use Rattle.std.specs.Prelude.{ℕ}

-- the most hours of a load, those of a season, and the most blocks (01, Posting, Load)
abbrev pub max_hours : ℕ
max_hours = 2208

-- the months are 1 to 3 (01, The book)
abbrev pub last_month : ℕ
last_month = 3

-- term 0 is the season, terms 1 to 3 are its months (01, The book)
abbrev pub last_term : ℕ
last_term = 3

-- how many terms there are, the season and its months (01, The book)
abbrev pub terms : ℕ
terms = 4

-- the tiers are 1 to 9 (01, The book), and the Long Term step is opened as tier 10 (02, 1/14)
abbrev pub long_term_step : ℕ
long_term_step = 10

-- tiers 1 to 3 are the season's (01, The book)
abbrev pub last_season_tier : ℕ
last_season_tier = 3

-- the most holders of a book (01, The book)
abbrev pub max_holders : ℕ
max_holders = 8

-- the most sources of a book, as of its sinks and of its paths (01, The book)
abbrev pub max_places : ℕ
max_places = 16

-- the most class lines of a migration (01, Migration)
abbrev pub max_class_lines : ℕ
max_class_lines = 64

-- the pairs of holders of a book with the most holders (01, Migration)
abbrev pub holder_pairs : ℕ
holder_pairs = 64

-- the classes are 1 to 8 (01, Migration)
abbrev pub last_class : ℕ
last_class = 8

-- the most customers of a class line (01, Migration)
abbrev pub max_customers : ℕ
max_customers = 9999999

-- the most average watts of a class line (01, Migration)
abbrev pub max_watts : ℕ
max_watts = 9999999

-- what summed watts are divided by for kW (01, Migration)
abbrev pub watts_per_kw : ℕ
watts_per_kw = 1000

-- the kind of evidence of an owned part of a plant (01, Posting, Verify)
abbrev pub ownership : ℕ
ownership = 1

-- the kind of evidence of a contract (01, Posting, Verify)
abbrev pub contract : ℕ
contract = 2

-- how many kinds of evidence there are (01, Posting, Verify)
abbrev pub evidence_kinds : ℕ
evidence_kinds = 2

-- the right of one who owns a whole plant, in ten-thousandths (01, Posting, Verify)
abbrev pub full_ownership : ℕ
full_ownership = 10000

-- the mark of evidence that runs for ten years; 0 is that of any other (02, 1/14)
abbrev pub ten_year_mark : ℕ
ten_year_mark = 1

-- the most that a numerator or a denominator of the settings can be (02, 3/14)
abbrev pub max_fraction : ℕ
max_fraction = 1000

-- the numbers of the settings: six fractions (02, 3/14)
abbrev pub setting_count : ℕ
setting_count = 12
