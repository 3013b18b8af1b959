-- The pages of a list of rows (the queue service of the Taskcluster reference: a list is told page by page, each page but the last with a
-- token for the next; here the token is the last row of the page).
use Rattle.std.specs.Prelude.{ℕ, zero, suc, Bool, nat_lt, List, [], ◌++◌, length, take, filter, Option, Some, None}
use Rattle.std.specs.List.{last_or}

-- the rows that come after a token, and all where there is none
abbrev pub rows_after : Option ℕ → List ℕ → List ℕ
rows_after None rows = rows
rows_after (Some token) rows = filter (λ row. nat_lt token row) rows

-- the rows of the page after a token: so many at most
abbrev pub page_rows : Option ℕ → ℕ → List ℕ → List ℕ
page_rows after limit rows = take limit (rows_after after rows)

-- there are more rows than the page has
abbrev pub has_more : Option ℕ → ℕ → List ℕ → Bool
has_more after limit rows = nat_lt limit (length (rows_after after rows))

-- the token of the page after this one: the last row of this one, or where it has none, the token of this one
abbrev pub next_token : Option ℕ → ℕ → List ℕ → Option ℕ
next_token after limit rows = last_or after (page_rows after limit rows)

-- so many pages put together, from the one after a token on
abbrev pub pages : ℕ → Option ℕ → ℕ → List ℕ → List ℕ
pages zero after limit rows = []
pages (suc count) after limit rows = page_rows after limit rows ++ pages count (next_token after limit rows) limit rows
