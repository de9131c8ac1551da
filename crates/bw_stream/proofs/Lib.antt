pub mod WritesInPieces
