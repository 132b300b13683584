pub mod RankLemmas
pub mod PairLemmas
