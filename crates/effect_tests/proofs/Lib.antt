mod WellFormed
