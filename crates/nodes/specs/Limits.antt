-- 01's limits where goals and certificate are read (src/limits.rt says the same of the code).
use Rattle.std.specs.Prelude.{ℕ}

-- "At most 2,048 nodes and 8,192 words", and the places of the store's index.
abbrev pub node_limit : ℕ
node_limit = 2048

abbrev pub word_limit : ℕ
word_limit = 8192

abbrev pub index_places : ℕ
index_places = 4096

-- Buckets of abbreviations. With those of goals they are fewer than the 297 that the table has room for (crate capacity).
abbrev pub def_buckets : ℕ
def_buckets = 192
