-- What the grammar tells apart.
use Rattle.std.specs.Prelude.{ℕ, Bool, ◌==◌}
use Rattle.sql_grammar.specs.declared.kind.Kind.{Kind}
use Rattle.sql_grammar.specs.declared.kind.Kind.TheVariants as k

-- the place of a kind in the list of kinds, from 0
abbrev pub place_of : Kind → ℕ
place_of k.Create = 0
place_of k.Table = 1
place_of k.Constraint = 2
place_of k.Primary = 3
place_of k.Key = 4
place_of k.Not = 5
place_of k.Null = 6
place_of k.Tinyint = 7
place_of k.Smallint = 8
place_of k.Integer = 9
place_of k.Bigint = 10
place_of k.Varchar = 11
place_of k.Bytes = 12
place_of k.Unique = 13
place_of k.Index = 14
place_of k.On = 15
place_of k.Partition = 16
place_of k.Column = 17
place_of k.Procedure = 18
place_of k.Parameter = 19
place_of k.As = 20
place_of k.Program = 21
place_of k.Begin = 22
place_of k.End = 23
place_of k.Insert = 24
place_of k.Into = 25
place_of k.Values = 26
place_of k.Update = 27
place_of k.Set = 28
place_of k.Where = 29
place_of k.Delete = 30
place_of k.From = 31
place_of k.Select = 32
place_of k.Inner = 33
place_of k.Join = 34
place_of k.Group = 35
place_of k.By = 36
place_of k.Order = 37
place_of k.Limit = 38
place_of k.Count = 39
place_of k.Sum = 40
place_of k.Min = 41
place_of k.Max = 42
place_of k.Asc = 43
place_of k.Desc = 44
place_of k.Or = 45
place_of k.And = 46
place_of k.Is = 47
place_of k.Between = 48
place_of k.In = 49
place_of k.Rows = 50
place_of k.First = 51
place_of k.Let = 52
place_of k.Sql = 53
place_of k.If = 54
place_of k.Then = 55
place_of k.Else = 56
place_of k.For = 57
place_of k.Do = 58
place_of k.Abort = 59
place_of k.Return = 60
place_of k.LeftParen = 61
place_of k.RightParen = 62
place_of k.Comma = 63
place_of k.Semicolon = 64
place_of k.Dot = 65
place_of k.Star = 66
place_of k.Plus = 67
place_of k.Minus = 68
place_of k.Slash = 69
place_of k.Equal = 70
place_of k.NotEqual = 71
place_of k.Less = 72
place_of k.LessEqual = 73
place_of k.Greater = 74
place_of k.GreaterEqual = 75
place_of k.Question = 76
place_of k.Colon = 77
place_of k.Name = 78
place_of k.Number = 79
place_of k.Text = 80
place_of k.Bad = 81

-- two kinds are the same
abbrev pub same_kind : Kind → Kind → Bool
same_kind a b = place_of a == place_of b
