pub mod StatementsOk
