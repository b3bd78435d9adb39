mod RetainLemmas
mod NumberLemmas
mod ColumnLemmas
mod OddsLemmas
mod AheadLemmas
mod PairsLemmas
mod IterClones
mod Common
