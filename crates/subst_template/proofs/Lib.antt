mod PlainLemmas
mod SubstituteLemmas
