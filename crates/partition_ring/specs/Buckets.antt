-- Which partition a value lies in.
use Rattle.std.specs.Prelude.{ℕ, ◌*◌, ◌/◌, ◌%◌, ◌^◌, List, fold, bit_xor}

-- a hash of 64 bits after one more byte
abbrev pub hash_step : ℕ → ℕ → ℕ
hash_step hash byte = bit_xor hash byte * 1099511628211 % 2 ^ 64

-- the 64-bit FNV-1a hash of bytes
abbrev pub hash_of : List ℕ → ℕ
hash_of bytes = fold hash_step 14695981039346656037 bytes

-- how many buckets there are
abbrev pub buckets : ℕ
buckets = 1024

-- the bucket that bytes fall into
abbrev pub bucket_of : List ℕ → ℕ
bucket_of bytes = hash_of bytes % buckets

-- the partition that bytes lie in: each partition has a range of buckets, as nearly as many as the others
abbrev pub partition_of : List ℕ → ℕ → ℕ
partition_of bytes parts = bucket_of bytes * parts / buckets
