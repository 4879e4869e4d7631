-- What a function that reads returned, and what can be read.
use Rattle.std.specs.Prelude.{◌≡◌, Option, Some, None, Result, Ok, Err}
use Rattle.log_records.specs.declared.reading.Unread.{Unread}
use Rattle.log_records.specs.declared.reading.Unread.TheVariants.{Other, NoMemory}

-- nothing is read only where nothing can be, unless memory runs out
abbrev pub Fails : {Y : Type 0} → Unread → Option Y → Type 0
Fails Other read = read ≡ None
Fails NoMemory read = Unit {0}

-- what a function returned, seen by view, is what can be read, unless memory ran out
abbrev pub Gives : {X Y : Type 0} → (X → Y) → Result X Unread → Option Y → Type 0
Gives view (Ok x) read = read ≡ Some (view x)
Gives view (Err e) read = Fails e read
